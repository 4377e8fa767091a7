use Rattle.std.proofs.Common.{drop}
use Rattle.std.specs.List.{AllByRecursion}
use Rattle.pg_state.specs.Fits.{FitsWhole}
use Rattle.pg_state.proofs.fitting.are_whole.Given as goal

abbrev pub invariant-loop-version : goal.invariant-loop-version
invariant-loop-version l = record {
  there : AllByRecursion FitsWhole l.heads → AllByRecursion FitsWhole (drop l.version-index l.heads);
  back : AllByRecursion FitsWhole (drop l.version-index l.heads) → AllByRecursion FitsWhole l.heads;
}
