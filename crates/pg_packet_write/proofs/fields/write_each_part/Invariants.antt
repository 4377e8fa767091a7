use Rattle.std.proofs.Common.{◌≡◌, ◌++◌, take}
use Rattle.std.specs.List.{flat_map}
use Rattle.pg_packet_write.specs.Fields.{part_bytes}
use Rattle.pg_packet_write.proofs.fields.write_each_part.Given as goal

abbrev pub invariant-loop-part : goal.invariant-loop-part
invariant-loop-part l = l.out ≡ l.fn.out ++ flat_map part_bytes (take l.part-index l.parts)
