use Rattle.std.proofs.Common.{◌≡◌, ◌++◌}
use Rattle.std.specs.List.{AllByRecursion, flat_map}
use Rattle.pg_state.specs.Fits.{FitsIntent}
use Rattle.pg_state.specs.Spelling.{intent_bytes}
use Rattle.pg_state.proofs.waiting.write_each_intent.Given as goal

abbrev pub invariant-loop-intent : goal.invariant-loop-intent
invariant-loop-intent l =
    (l.out ++ flat_map intent_bytes l.intent-iterator ≡ l.initial.out ++ flat_map intent_bytes l.intents)
    × AllByRecursion FitsIntent l.intent-iterator
