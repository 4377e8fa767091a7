use Rattle.pg_packet_write.proofs.Lengths.{name_short}
use Rattle.pg_packet_write.proofs.fields.write_place.Goals as goal

pub write_name-requires : goal.write_name-requires
write_name-requires c = rw c.as_slice.ensures (name_short _ c.requires.name)
