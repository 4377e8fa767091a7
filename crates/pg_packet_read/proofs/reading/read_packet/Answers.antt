use Rattle.std.proofs.Common.{arith}
use Rattle.pg_packet_read.specs.Whole.{datagram_with}
use Rattle.pg_packet_read.proofs.Spelled.{fits}
use Rattle.pg_packet_read.proofs.reading.read_packet.Goals as goal

pub packet_with-requires : goal.packet_with-requires
packet_with-requires c = fits 40000 c.args.bytes.now (datagram_with c.in_ok-parts.parts) (λ i. omega (arith, c.type_inv.bytes i)) c.in_ok-parts.ensures
