use Rattle.std.proofs.Common.{◌≡◌, ◌++◌, drop}
use Rattle.std.specs.List.{flat_map}
use Rattle.pg_intentions.specs.Beginning.{ended_key_of}
use Rattle.pg_intentions.proofs.beginning.ended_keys.Given as goal

abbrev pub invariant-loop-k : goal.invariant-loop-k
invariant-loop-k l =
    l.keys ++ flat_map (ended_key_of l.store l.files.entries) (drop l.k l.store.intents)
    ≡ flat_map (ended_key_of l.store l.files.entries) l.store.intents
