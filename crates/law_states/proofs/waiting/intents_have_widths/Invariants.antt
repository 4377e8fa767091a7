use Rattle.std.specs.List.{AllByRecursion}
use Rattle.law_states.specs.Widths.{HasIntentWidth}
use Rattle.law_states.proofs.waiting.intents_have_widths.Given as goal

abbrev pub invariant-loop-intent : goal.invariant-loop-intent
invariant-loop-intent l = AllByRecursion HasIntentWidth l.intent-iterator → AllByRecursion HasIntentWidth l.intents
