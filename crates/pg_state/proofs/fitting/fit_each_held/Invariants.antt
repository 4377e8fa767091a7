use Rattle.std.specs.List.{AllByRecursion}
use Rattle.pg_state.specs.Fits.{FitsHeld}
use Rattle.pg_state.proofs.fitting.fit_each_held.Given as goal

abbrev pub invariant-loop-id : goal.invariant-loop-id
invariant-loop-id l = record {
  there : AllByRecursion (FitsHeld l.replicas) l.held.entries → AllByRecursion (FitsHeld l.replicas) l.id-iterator;
  back : AllByRecursion (FitsHeld l.replicas) l.id-iterator → AllByRecursion (FitsHeld l.replicas) l.held.entries;
}
