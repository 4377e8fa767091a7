use Rattle.std.proofs.Common.{drop, map}
use Rattle.pg_base.specs.Version.{stamp_of}
use Rattle.pg_packet_write.specs.Fits.{Rise}
use Rattle.pg_state.specs.Rising.{RiseFrom}
use Rattle.pg_state.proofs.fitting.heads_rise.Given as goal

abbrev pub invariant-loop-version : goal.invariant-loop-version
invariant-loop-version l = record {
  there : Rise (map stamp_of l.heads) → RiseFrom l.before (map stamp_of (drop l.version-index l.heads));
  back : RiseFrom l.before (map stamp_of (drop l.version-index l.heads)) → Rise (map stamp_of l.heads);
}
