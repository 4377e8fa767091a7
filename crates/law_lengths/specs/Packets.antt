-- What a server sends and answers: it has a spelling, and its packet at most 40,000 bytes.
use Rattle.std.specs.Prelude.{ℕ, ◌≡◌, ◌≤◌, Contains, Some, length}
use Rattle.std.specs.List.{AllByRecursion}
use Rattle.pg_base.specs.Id as id
use Rattle.pg_call.specs.declared.call.Call.{Call}
use Rattle.pg_call.specs.declared.call.Call.TheVariants as call
use Rattle.pg_call.specs.declared.reply.Reply.{Reply}
use Rattle.pg_call.specs.declared.reply.Reply.TheVariants as reply
use Rattle.pg_server.specs.pg_pieces.pg_msg.declared.message.Sent.{Sent}
use Rattle.pg_path.specs.declared.row.Row.{Row}
use Rattle.pg_packet_write.specs.declared.datagram.Content.{Content}
use Rattle.pg_packet_write.specs.declared.datagram.Content.TheVariants as content
use Rattle.pg_packet_write.specs.Datagrams.{FitsContent, packet_bytes}
use Rattle.pg_server.specs.declared.input.Input.{Input}
use Rattle.pg_server.specs.declared.input.Input.TheVariants as input
use Rattle.pg_server.specs.declared.input.Out.{Out}
use Rattle.law_spelled.specs.Messages.{HasPlaceWidths, HasWidths}

-- ---- packets

-- whoever sends this, in whatever view: its packet has at most 40,000 bytes
abbrev pub IsShort : Content → Type 0
IsShort said = (from view : ℕ)
    → length (packet_bytes (record { from = from; view = view; content = said })) ≤ 40000

-- it has a spelling, and its packet is short
pub record IsPacket (said : Content) : Type 0 where
  pub spelled : FitsContent said
  pub short : IsShort said

-- ---- what the types say

-- the numbers of ids and stamps in a reply are in their ranges, where its spelling asks that
abbrev pub HasReplyWidths : Reply → Type 0
HasReplyWidths (reply.Names total rows) = AllByRecursion (λ (row : Row). id.Fits row.child) rows
HasReplyWidths (reply.Stat stat) = HasPlaceWidths stat.id stat.place
HasReplyWidths _ = Unit {0}

-- at most 32,768 bytes are asked for
abbrev pub AsksFew : Call → Type 0
AsksFew (call.Read path offset count) = count ≤ 32768
AsksFew _ = Unit {0}

abbrev pub IsAskedFew : Input → Type 0
IsAskedFew (input.Call moment called) = AsksFew called
IsAskedFew _ = Unit {0}

-- ---- what a server sends

-- wherever it is as its type says, it is a packet
abbrev pub IsSentWell : Sent → Type 0
IsSentWell m = HasWidths m.packet.message → IsPacket (content.Message m.packet.message)

-- whatever the number of the call
abbrev pub IsToldWell : Reply → Type 0
IsToldWell r = HasReplyWidths r → (number : ℕ) → IsPacket (content.Reply number r)

-- each message goes to a server, and it and what a client is told are packets
pub record SendsPackets (out : Out) : Type 0 where
  pub to : (m : Sent) → Contains out.sent m → m.to ≤ 64
  pub sent : (m : Sent) → Contains out.sent m → IsSentWell m
  pub told : (r : Reply) → out.reply ≡ Some r → IsToldWell r
