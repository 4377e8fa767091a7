use Rattle.pg_packet_fields.proofs.Names.{name_test}
use Rattle.pg_packet_fields.proofs.places.is_name.Goals as goal

pub returns : goal.returns
returns c = name_test _ _ c.is_place_name.ensures
