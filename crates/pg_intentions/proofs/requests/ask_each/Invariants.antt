use Rattle.std.proofs.Common.{◌≡◌, ◌++◌, drop}
use Rattle.std.specs.List.{flat_map}
use Rattle.pg_intentions.specs.Requests.{asks_by}
use Rattle.pg_intentions.proofs.requests.ask_each.Given as goal

abbrev pub invariant-loop-key : goal.invariant-loop-key
invariant-loop-key l =
    l.sent ++ flat_map (asks_by l.store) (drop l.key-index l.keys) ≡ l.initial.sent ++ flat_map (asks_by l.store) l.keys
