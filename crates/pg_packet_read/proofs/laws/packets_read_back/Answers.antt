use Rattle.pg_packet_read.proofs.Spelled.{apart, short, spelled, written}
use Rattle.pg_packet_read.proofs.laws.packets_read_back.Goals as goal

pub returns : goal.returns
returns c = record { written = written 40000; spelled = spelled 40000; short = short 40000; apart = apart }
