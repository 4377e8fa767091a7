use Rattle.std.proofs.Common.{◌≡◌, ◌++◌, drop, take}
use Rattle.std.specs.List.{AllByRecursion, flat_map}
use Rattle.pg_packet_write.specs.Fields.{version_bytes}
use Rattle.pg_state.specs.Fits.{FitsWhole}
use Rattle.pg_state.proofs.contents.write_each_whole.Given as goal

abbrev pub invariant-loop-version : goal.invariant-loop-version
invariant-loop-version l = record {
  out : l.out ≡ l.fn.out ++ flat_map version_bytes (take l.version-index l.heads);
  rest : AllByRecursion FitsWhole (drop l.version-index l.heads);
}
