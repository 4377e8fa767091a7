use Rattle.std.specs.List.{AllByRecursion}
use Rattle.pg_state.specs.Fits.{FitsIntent}
use Rattle.pg_state.proofs.expecting.fit_each_intent.Given as goal

abbrev pub invariant-loop-intent : goal.invariant-loop-intent
invariant-loop-intent l = record {
  there : AllByRecursion FitsIntent l.intents → AllByRecursion FitsIntent l.intent-iterator;
  back : AllByRecursion FitsIntent l.intent-iterator → AllByRecursion FitsIntent l.intents;
}
