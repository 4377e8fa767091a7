use Rattle.std.proofs.Common.{◌≡◌, ◌++◌, take}
use Rattle.std.specs.List.{flat_map}
use Rattle.pg_packet_write.specs.Fields.{gold_bytes}
use Rattle.pg_packet_write.proofs.fields.write_each_gold.Given as goal

abbrev pub invariant-loop-flag : goal.invariant-loop-flag
invariant-loop-flag l = l.out ≡ l.fn.out ++ flat_map gold_bytes (take l.flag-index l.flags)
