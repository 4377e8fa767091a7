use Rattle.std.proofs.Common.{◌≡◌, ◌++◌}
use Rattle.pg_intent.specs.Intents.{keys_to}
use Rattle.pg_intent.proofs.intents.Intents.keys_to.Given as goal

abbrev pub invariant-loop-intent : goal.invariant-loop-intent
invariant-loop-intent l = l.keys ++ keys_to l.server l.intent-iterator ≡ keys_to l.server l.self
