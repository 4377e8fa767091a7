use Rattle.std.specs.List.{AllByRecursion}
use Rattle.pg_state.specs.Fits.{IsThingInTime}
use Rattle.pg_state.proofs.time.are_things_in_time.Given as goal

abbrev pub invariant-loop-id : goal.invariant-loop-id
invariant-loop-id l = record {
  there : AllByRecursion (IsThingInTime l.last l.replicas) l.held.entries → AllByRecursion (IsThingInTime l.last l.replicas) l.id-iterator;
  back : AllByRecursion (IsThingInTime l.last l.replicas) l.id-iterator → AllByRecursion (IsThingInTime l.last l.replicas) l.held.entries;
}
