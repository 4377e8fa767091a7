use Rattle.std.proofs.Common.{◌≡◌, drop}
use Rattle.pg_intent.specs.Intents.{turned_each}
use Rattle.pg_intent.proofs.intents.Intents.turn_each.Given as goal

abbrev pub invariant-loop-key : goal.invariant-loop-key
invariant-loop-key l = turned_each l.self (drop l.key-index l.keys) l.to ≡ turned_each l.fn.self l.keys l.to
