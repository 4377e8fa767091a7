use Rattle.std.proofs.Common.{◌≡◌, ◌++◌, drop}
use Rattle.std.specs.List.{flat_map}
use Rattle.pg_intentions.specs.Requests.{asks}
use Rattle.pg_intentions.proofs.requests.ask_every.Given as goal

abbrev pub invariant-loop-k : goal.invariant-loop-k
invariant-loop-k l =
    l.sent ++ flat_map (asks l.store) (drop l.k l.store.intents) ≡ l.initial.sent ++ flat_map (asks l.store) l.store.intents
