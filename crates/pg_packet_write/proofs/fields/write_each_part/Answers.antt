use Rattle.pg_packet_write.proofs.Parts.{part_short}
use Rattle.pg_packet_write.proofs.fields.write_each_part.Goals as goal

pub write_part-requires : goal.write_part-requires
write_part-requires c = part_short c.args.parts.now c.loop-part.part-index c.part-item.result _ c.loop-part-test.true c.part-item.is c.requires
