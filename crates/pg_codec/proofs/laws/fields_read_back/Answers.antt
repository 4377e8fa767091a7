use Rattle.pg_codec.proofs.Numbers.{byte_field, short_field, narrow_field, wide_field}
use Rattle.pg_codec.proofs.Ids.{flag_field, file_field, stamp_field}
use Rattle.pg_codec.proofs.laws.fields_read_back.Goals as goal

pub returns : goal.returns
returns c = record {
  byte = byte_field;
  short = short_field;
  narrow = narrow_field;
  wide = wide_field;
  flag = flag_field;
  file = file_field;
  stamp = stamp_field;
}
