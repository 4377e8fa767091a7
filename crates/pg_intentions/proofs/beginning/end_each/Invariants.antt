use Rattle.std.proofs.Common.{◌≡◌, drop}
use Rattle.pg_graph.specs.pg_intent.Intents.{ended_each}
use Rattle.pg_intentions.proofs.beginning.end_each.Given as goal

abbrev pub invariant-loop-key : goal.invariant-loop-key
invariant-loop-key l = ended_each l.intents (drop l.key-index l.keys) ≡ ended_each l.initial.intents l.keys
