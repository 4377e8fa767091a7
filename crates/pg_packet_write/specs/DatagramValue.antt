-- Packets as they are seen: who sends them, in which view, and what they are for.
use Rattle.std.specs.Prelude.{ℕ}
use Rattle.pg_packet_write.specs.declared.datagram.Content.{Content}

pub record DatagramValue : Type 0 where
  pub from : ℕ
  pub view : ℕ
  pub content : Content
