use Rattle.std.specs.List.{AllByRecursion}
use Rattle.pg_state.specs.Fits.{IsIntentInTime}
use Rattle.pg_state.proofs.time.are_intents_in_time.Given as goal

abbrev pub invariant-loop-intent : goal.invariant-loop-intent
invariant-loop-intent l = record {
  there : AllByRecursion (IsIntentInTime l.last) l.intents → AllByRecursion (IsIntentInTime l.last) l.intent-iterator;
  back : AllByRecursion (IsIntentInTime l.last) l.intent-iterator → AllByRecursion (IsIntentInTime l.last) l.intents;
}
