use Rattle.std.proofs.Common.{◌≡◌, ◌++◌, take}
use Rattle.std.specs.List.{flat_map}
use Rattle.pg_packet_write.specs.Fields.{known_bytes}
use Rattle.pg_packet_write.proofs.fields.write_each_known.Given as goal

abbrev pub invariant-loop-known : goal.invariant-loop-known
invariant-loop-known l = l.out ≡ l.fn.out ++ flat_map known_bytes (take l.known-index l.vector)
