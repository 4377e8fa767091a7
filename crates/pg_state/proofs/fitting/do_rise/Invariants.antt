use Rattle.std.proofs.Common.{drop}
use Rattle.pg_packet_write.specs.Fits.{Rise}
use Rattle.pg_state.specs.Rising.{RiseFrom}
use Rattle.pg_state.proofs.fitting.do_rise.Given as goal

abbrev pub invariant-loop-stamp : goal.invariant-loop-stamp
invariant-loop-stamp l = record {
  there : Rise l.stamps → RiseFrom l.before (drop l.stamp-index l.stamps);
  back : RiseFrom l.before (drop l.stamp-index l.stamps) → Rise l.stamps;
}
