use Rattle.pg_packet_read.proofs.EachMessage.{message_is}
use Rattle.pg_packet_read.proofs.laws.messages_read_back.Goals as goal

pub returns : goal.returns
returns c = message_is
