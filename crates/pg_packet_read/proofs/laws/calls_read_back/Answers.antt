use Rattle.pg_packet_read.proofs.AskedKinds.{request_field}
use Rattle.pg_packet_read.proofs.ToldKinds.{reply_field}
use Rattle.pg_packet_read.proofs.laws.calls_read_back.Goals as goal

pub returns : goal.returns
returns c = record { request = request_field; reply = reply_field }
