use Rattle.std.proofs.Common.{◌≡◌, ◌++◌, take}
use Rattle.std.specs.List.{flat_map}
use Rattle.pg_codec.specs.Spelling.{stamp_bytes}
use Rattle.pg_packet_write.proofs.fields.write_each_stamp.Given as goal

abbrev pub invariant-loop-stamp : goal.invariant-loop-stamp
invariant-loop-stamp l = l.out ≡ l.fn.out ++ flat_map stamp_bytes (take l.stamp-index l.stamps)
