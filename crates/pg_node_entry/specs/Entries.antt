-- How the entries of a node's log are spelled.
use Rattle.std.specs.Prelude.{ℕ, ◌≤◌, List, ◌++◌, length}
use Rattle.pg_codec.specs.Laws.{HasWidth}
use Rattle.pg_codec.specs.Spelling.{number_bytes}
use Rattle.pg_msg.specs.declared.message.Packet.{Packet}
use Rattle.pg_node_entry.specs.declared.entry.NodeEntry.{NodeEntry}
use Rattle.pg_node_entry.specs.declared.entry.NodeEntry.TheVariants as entry
use Rattle.pg_packet_read.specs.Calls.{IsWholeCall}
use Rattle.pg_packet_read.specs.Whole.{IsWholeDatagram}
use Rattle.pg_packet_write.specs.Calls.{FitsCall, call_bytes}
use Rattle.pg_packet_write.specs.DatagramValue.{DatagramValue}
use Rattle.pg_packet_write.specs.Datagrams.{packet_bytes}
use Rattle.pg_packet_write.specs.Messages.{FitsMessage}
use Rattle.pg_packet_write.specs.declared.datagram.Content.TheVariants as content

-- the packet that brought a message
abbrev pub carrier : Packet → DatagramValue
carrier p = record { from = p.from; view = p.view; content = content.Message p.message }

-- the number of its kind, and its fields
unfoldable pub entry_bytes : NodeEntry → List ℕ
entry_bytes (entry.Call moment call) =
    number_bytes 1 1 ++ (number_bytes 8 moment ++ call_bytes call)
entry_bytes (entry.Tick moment word) =
    number_bytes 1 2 ++ (number_bytes 8 moment ++ number_bytes 8 word)
entry_bytes (entry.Arrival packet) = number_bytes 1 3 ++ packet_bytes (carrier packet)
entry_bytes entry.Restart = number_bytes 1 4
entry_bytes (entry.First server servers) =
    number_bytes 1 5 ++ (number_bytes 4 server ++ number_bytes 4 servers)

-- a message has a spelling, and its packet at most 40,000 bytes
pub record FitsArrival (p : Packet) : Type 0 where
  pub message : FitsMessage p.message
  pub short : length (packet_bytes (carrier p)) ≤ 40000

-- what has a spelling: numbers have their widths by their types
abbrev pub FitsEntry : NodeEntry → Type 0
FitsEntry (entry.Call moment call) = FitsCall call
FitsEntry (entry.Tick moment word) = Unit {0}
FitsEntry (entry.Arrival packet) = FitsArrival packet
FitsEntry entry.Restart = Unit {0}
FitsEntry (entry.First server servers) = Unit {0}

-- ---- what can be read

pub record IsWholeArrival (p : Packet) : Type 0 where
  pub packet : IsWholeDatagram (carrier p)
  pub short : length (packet_bytes (carrier p)) ≤ 40000

abbrev pub IsWholeEntry : NodeEntry → Type 0
IsWholeEntry (entry.Call moment call) = HasWidth 8 moment × IsWholeCall call
IsWholeEntry (entry.Tick moment word) = HasWidth 8 moment × HasWidth 8 word
IsWholeEntry (entry.Arrival packet) = IsWholeArrival packet
IsWholeEntry entry.Restart = Unit {0}
IsWholeEntry (entry.First server servers) = HasWidth 4 server × HasWidth 4 servers
