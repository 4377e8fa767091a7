-- How long the packets of messages are.
use Rattle.std.proofs.Common.{ℕ, ◌+◌, ◌≤◌, length, arith, le_trans}
use Rattle.pg_base.specs.declared.id.FileId.{FileId}
use Rattle.pg_base.specs.Version.{VersionValue}
use Rattle.pg_entries.specs.declared.cell.Cell.{Cell}
use Rattle.pg_entries.specs.declared.cell.Cell.TheVariants as cell
use Rattle.pg_entries.specs.declared.entry.Entry.{Entry}
use Rattle.pg_server.specs.pg_pieces.pg_msg.declared.message.Delta.{Delta}
use Rattle.pg_server.specs.pg_pieces.pg_msg.declared.message.Granted.{Granted}
use Rattle.pg_server.specs.pg_pieces.pg_msg.declared.message.Message.{Message}
use Rattle.pg_server.specs.pg_pieces.pg_msg.declared.message.Message.TheVariants as message
use Rattle.pg_server.specs.pg_pieces.pg_msg.declared.message.Piece.{Piece}
use Rattle.pg_server.specs.pg_pieces.pg_msg.declared.message.Wanted.{Wanted}
use Rattle.pg_packet_write.specs.declared.datagram.Content.TheVariants as content
use Rattle.pg_packet_write.specs.DatagramValue.{DatagramValue}
use Rattle.pg_packet_write.specs.Datagrams.{content_bytes, kind_of, mark, packet_bytes}
use Rattle.pg_packet_write.specs.Fields.{cell_bytes, version_bytes}
use Rattle.pg_packet_write.specs.Fits.{FitStamps, FitsCell, FitsVersion}
use Rattle.pg_packet_write.specs.Messages.{FitsDelta, FitsGranted, FitsMessage, FitsPiece, FitsTold, delta_bytes, granted_bytes, message_bytes, piece_bytes, replica_bytes, told_bytes, walk_bytes, wanted_bytes}
use Rattle.law_lengths.specs.Packets.{IsShort}
use Rattle.law_lengths.proofs.Fields.{ask_length, block, both, ends_length, entry_length, file_length, gold_length, golds_length, head_length, key_length, number, place_length, policy_length, ranges_length, stamp_length, stamps_length, truth}

-- ---- what each kind says

version_length : (v : VersionValue) → FitsVersion v → length (version_bytes v) ≤ 6178
unfolding version_bytes
version_length v h =
    let short = h.short in
    let whole = h.body in
    both 5154 1024 _ _ (head_length v.head h.head) (omega (arith, whole, short))

cell_length : (c : Cell) → FitsCell c → length (cell_bytes c) ≤ 6179
unfolding cell_bytes
cell_length (cell.Place place) h = le_trans (both 1 282 _ _ (number 1 1) (place_length place h)) (omega arith)
cell_length (cell.Flag flag) h = le_trans (both 1 21 _ _ (number 1 2) (gold_length flag)) (omega arith)
cell_length (cell.Entry entry sure) h =
    le_trans (both 1 1641 _ _ (number 1 3) (both 1640 1 _ _ (entry_length entry h) (truth sure))) (omega arith)
cell_length (cell.Version version) h = both 1 6178 _ _ (number 1 4) (version_length version h)

wanted_length : (w : Wanted) → FitStamps w.heads → length (wanted_bytes w) ≤ 3090
unfolding wanted_bytes
wanted_length w h = both 12 3078 _ _ (stamp_length w.stamp) (both 4 3074 _ _ (number 4 w.offset) (stamps_length w.heads h))

delta_length : (d : Delta) → FitsDelta d → length (delta_bytes d) ≤ 39840
unfolding delta_bytes
delta_length d h =
    both 5154 34686 _ _ (head_length d.head h.head) (both 3074 31612 _ _ (stamps_length d.from h.from) (ranges_length d.ranges h.ranges))

piece_length : (p : Piece) → FitsPiece p → length (piece_bytes p) ≤ 37930
unfolding piece_bytes
piece_length p h = both 5154 32776 _ _ (head_length p.head h.head) (both 4 32772 _ _ (number 4 p.offset) (block 4 32768 p.bytes h.short))

granted_length : (g : Granted) → FitsGranted g → length (granted_bytes g) ≤ 1628
unfolding granted_bytes
granted_length g h = both 1 1627 _ _ (policy_length g.policy) (both 282 1345 _ _ (place_length g.place h.place) (golds_length g.flags h.flags))

replica_length : (file : FileId) (birth : ℕ) → length (replica_bytes file birth) ≤ 21
unfolding replica_bytes
replica_length file birth = both 13 8 _ _ (file_length file) (number 8 birth)

told_length : (dir : FileId) (e : Entry) → FitsTold dir e → length (told_bytes dir e) ≤ 1653
unfolding told_bytes
told_length dir e h = both 13 1640 _ _ (file_length dir) (entry_length e h.entry)

walk_length : (origin birth hops word : ℕ) → length (walk_bytes origin birth hops word) ≤ 21
unfolding walk_bytes
walk_length origin birth hops word =
    both 4 17 _ _ (number 4 origin) (both 8 9 _ _ (number 8 birth) (both 1 8 _ _ (number 1 hops) (number 8 word)))

-- ---- messages

-- of all messages none is longer than the longest Delta
message_length : (m : Message) → FitsMessage m → length (message_bytes m) ≤ 39869
unfolding message_bytes
message_length (message.Cell ends tag c) h =
    le_trans (both 29 6187 _ _ (ends_length ends) (both 8 6179 _ _ (number 8 tag) (cell_length c h))) (omega arith)
message_length (message.Ack ends key tag) h = le_trans (both 29 22 _ _ (ends_length ends) (both 14 8 _ _ (key_length key) (number 8 tag))) (omega arith)
message_length (message.Harbinger ends tag head) h =
    le_trans (both 29 5162 _ _ (ends_length ends) (both 8 5154 _ _ (number 8 tag) (head_length head h))) (omega arith)
message_length (message.Want ends wanted) h = le_trans (both 29 3090 _ _ (ends_length ends) (wanted_length wanted h)) (omega arith)
message_length (message.Delta ends delta) h = both 29 39840 _ _ (ends_length ends) (delta_length delta h)
message_length (message.Piece ends piece) h = le_trans (both 29 37930 _ _ (ends_length ends) (piece_length piece h)) (omega arith)
message_length (message.Later ends stamp) h = le_trans (both 29 12 _ _ (ends_length ends) (stamp_length stamp)) (omega arith)
message_length (message.Fetch file birth) h = le_trans (replica_length file birth) (omega arith)
message_length (message.Grant ends granted) h = le_trans (both 29 1628 _ _ (ends_length ends) (granted_length granted h)) (omega arith)
message_length (message.NoGrant file birth) h = le_trans (replica_length file birth) (omega arith)
message_length (message.Full ends) h = le_trans (ends_length ends) (omega arith)
message_length (message.Seek file birth) h = le_trans (replica_length file birth) (omega arith)
message_length (message.Greet ends why) h = le_trans (ends_length ends) (omega arith)
message_length (message.NoneHere ask file child) h =
    le_trans (both 1 26 _ _ (ask_length ask) (both 13 13 _ _ (file_length file) (file_length child))) (omega arith)
message_length (message.Gone file birth) h = le_trans (replica_length file birth) (omega arith)
message_length (message.Bye ends) h = le_trans (ends_length ends) (omega arith)
message_length (message.ByeOk file birth) h = le_trans (replica_length file birth) (omega arith)
message_length (message.Confirm dir entry) h = le_trans (told_length dir entry h) (omega arith)
message_length (message.PlaceIs dir entry) h = le_trans (told_length dir entry h) (omega arith)
message_length (message.Tell dir entry) h = le_trans (told_length dir entry h) (omega arith)
message_length (message.TellOk dir child stamp) h =
    le_trans (both 13 25 _ _ (file_length dir) (both 13 12 _ _ (file_length child) (stamp_length stamp))) (omega arith)
message_length (message.Leave ends stamp) h = le_trans (both 29 12 _ _ (ends_length ends) (stamp_length stamp)) (omega arith)
message_length (message.LeaveOk ends stamp) h = le_trans (both 29 12 _ _ (ends_length ends) (stamp_length stamp)) (omega arith)
message_length (message.Invite ends) h = le_trans (ends_length ends) (omega arith)
message_length (message.Walk ends origin birth hops word) h =
    le_trans (both 29 21 _ _ (ends_length ends) (walk_length origin birth hops word)) (omega arith)

-- ---- packets

-- the mark, the kind, the sender and the view have 16 bytes
pub packet_length : (d : DatagramValue) (most : ℕ) → length (content_bytes d.content) ≤ most → length (packet_bytes d) ≤ 16 + most
unfolding packet_bytes
packet_length d most h =
    le_trans
    (both 3 (1 + (4 + (8 + most))) mark _ (omega arith) (both 1 (4 + (8 + most)) _ _ (number 1 (kind_of d.content))
    (both 4 (8 + most) _ _ (number 4 d.from) (both 8 most _ _ (number 8 d.view) h))))
    (omega arith)

said : (m : Message) → FitsMessage m → length (content_bytes (content.Message m)) ≤ 39869
unfolding content_bytes
said m h = message_length m h

pub short_message : (m : Message) → FitsMessage m → IsShort (content.Message m)
short_message m h from view =
    le_trans (packet_length (record { from = from; view = view; content = content.Message m }) 39869 (said m h)) (omega arith)
