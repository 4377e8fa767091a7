use Rattle.pg_node_entry.proofs.Written.{arrival_written}
use Rattle.pg_node_entry.proofs.writing.write_arrival.Goals as goal

pub returns-clause-bytes : goal.returns-clause-bytes
returns-clause-bytes c = arrival_written _ _ _ c.args.packet _ c.in_ok-write_packet.ensures c.in_ok-write_u8.ensures c.message-packet.ensures
