use Rattle.std.proofs.Common.{drop}
use Rattle.std.specs.List.{AllByRecursion}
use Rattle.pg_state.specs.Fits.{FitsKept}
use Rattle.pg_state.proofs.fitting.fit_each_kept.Given as goal

abbrev pub invariant-loop-delta : goal.invariant-loop-delta
invariant-loop-delta l = record {
  there : AllByRecursion FitsKept l.deltas → AllByRecursion FitsKept (drop l.delta-index l.deltas);
  back : AllByRecursion FitsKept (drop l.delta-index l.deltas) → AllByRecursion FitsKept l.deltas;
}
