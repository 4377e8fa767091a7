use Rattle.pg_packet_fields.proofs.Plain.{ask_field, dir_field, ends_field, key_field, policy_field, server_field, text_field}
use Rattle.pg_packet_fields.proofs.Many.{stamps_field}
use Rattle.pg_packet_fields.proofs.PlaceFields.{entry_field, gold_field, golds_field, name_field, place_field}
use Rattle.pg_packet_fields.proofs.CellFields.{cell_field}
use Rattle.pg_packet_fields.proofs.HeadFields.{head_field, vector_field, version_field}
use Rattle.pg_packet_fields.proofs.PatchFields.{block_field, ranges_field}
use Rattle.pg_packet_fields.proofs.laws.fields_read_back.Goals as goal

pub returns : goal.returns
returns c = record {
  server = server_field;
  policy = policy_field;
  ask = ask_field;
  ends = ends_field;
  key = key_field;
  directory = dir_field;
  stamps = stamps_field;
  text = text_field;
  name = name_field;
  place = place_field;
  gold = gold_field 0;
  golds = golds_field;
  entry = entry_field;
  vector = vector_field;
  head = head_field;
  version = version_field;
  ranges = ranges_field;
  block = block_field;
  cell = cell_field;
}
