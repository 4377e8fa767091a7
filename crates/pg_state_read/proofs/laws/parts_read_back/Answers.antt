use Rattle.pg_state_read.proofs.PartFields.{marked_field}
use Rattle.pg_state_read.proofs.WholeParts.{spelled, written}
use Rattle.pg_state_read.proofs.laws.parts_read_back.Goals as goal

pub returns : goal.returns
returns c = record { field = marked_field; written = written; spelled = spelled }
