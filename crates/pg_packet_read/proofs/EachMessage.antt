-- Messages are fields, kind by kind; each clause for a `k` stands for all kinds that are not named above it.
use Rattle.std.proofs.Common.{◌≡◌, ℕ, refl}
use Rattle.pg_base.specs.declared.head.Head.{Head}
use Rattle.pg_base.specs.declared.id.FileId.{FileId}
use Rattle.pg_base.specs.declared.stamp.Stamp.{Stamp}
use Rattle.pg_codec.specs.Laws.{IsField}
use Rattle.pg_codec.specs.Reading.{Field, followed_by, seen_as, file_at, number_at, stamp_at}
use Rattle.pg_edges.specs.declared.key.Key.{Key}
use Rattle.pg_entries.specs.declared.cell.Cell.{Cell}
use Rattle.pg_entries.specs.declared.entry.Entry.{Entry}
use Rattle.pg_msg.specs.Sent.{kind_of}
use Rattle.pg_msg.specs.declared.message.Ask.{Ask}
use Rattle.pg_msg.specs.declared.message.Delta.{Delta}
use Rattle.pg_msg.specs.declared.message.Ends.{Ends}
use Rattle.pg_msg.specs.declared.message.Granted.{Granted}
use Rattle.pg_msg.specs.declared.message.Message.{Message}
use Rattle.pg_msg.specs.declared.message.Message.TheVariants as message
use Rattle.pg_msg.specs.declared.message.Piece.{Piece}
use Rattle.pg_msg.specs.declared.message.Wanted.{Wanted}
use Rattle.pg_msg.specs.declared.summary.MessageKind.{MessageKind}
use Rattle.pg_msg.specs.declared.summary.MessageKind.TheVariants as kind
use Rattle.pg_packet_write.specs.Messages.{message_bytes, walk_bytes}
use Rattle.pg_packet_fields.specs.Cells.{cell_at}
use Rattle.pg_packet_fields.specs.Faults.{of_packet}
use Rattle.pg_packet_fields.specs.Heads.{head_at}
use Rattle.pg_packet_fields.specs.Reading.{ask_at, dir_at, ends_at, key_at, server_at}
use Rattle.pg_packet_fields.specs.declared.error.PacketError.{PacketError}
use Rattle.pg_packet_fields.proofs.CellFields.{cell_field}
use Rattle.pg_packet_fields.proofs.HeadFields.{head_field}
use Rattle.pg_packet_fields.proofs.Joining.{then_is}
use Rattle.pg_packet_fields.proofs.EachKind.{of_kinds}
use Rattle.pg_packet_fields.proofs.Plain.{ask_field, dir_field, ends_field, file_is, key_field, server_field, stamp_is, wide_is}
use Rattle.pg_packet_read.specs.MessageFields.{about_at, delta_at, granted_at, hops_at, piece_at, replica_at, listed_at, wanted_at}
use Rattle.pg_packet_read.specs.Messages.{IsWholeMessage, message_at}
use Rattle.pg_packet_read.proofs.MessageParts.{about_field, delta_field, granted_field, hops_field, piece_field, replica_field, listed_field, wanted_field}

-- the fields of each kind
abbrev Parts : MessageKind → Type 0
Parts kind.Cell = Ends × (ℕ × Cell)
Parts kind.Ack = Ends × (Key × ℕ)
Parts kind.Harbinger = Ends × (ℕ × Head)
Parts kind.Want = Ends × Wanted
Parts kind.Delta = Ends × Delta
Parts kind.Piece = Ends × Piece
Parts kind.Later = Ends × Stamp
Parts kind.Fetch = FileId × ℕ
Parts kind.Grant = Ends × Granted
Parts kind.NoGrant = FileId × ℕ
Parts kind.Full = Ends
Parts kind.Seek = FileId × ℕ
Parts (kind.Greet why) = Ends
Parts kind.NoneHere = Ask × (FileId × FileId)
Parts kind.Gone = FileId × ℕ
Parts kind.Bye = Ends
Parts kind.ByeOk = FileId × ℕ
Parts kind.Confirm = FileId × Entry
Parts kind.PlaceIs = FileId × Entry
Parts kind.Tell = FileId × Entry
Parts kind.TellOk = FileId × (FileId × Stamp)
Parts kind.Leave = Ends × Stamp
Parts kind.LeaveOk = Ends × Stamp
Parts kind.Invite = Ends
Parts kind.Walk = Ends × (ℕ × (ℕ × (ℕ × ℕ)))

abbrev made : (k : MessageKind) → Parts k → Message
made kind.Cell x = message.Cell x.0 x.1.0 x.1.1
made kind.Ack x = message.Ack x.0 x.1.0 x.1.1
made kind.Harbinger x = message.Harbinger x.0 x.1.0 x.1.1
made kind.Want x = message.Want x.0 x.1
made kind.Delta x = message.Delta x.0 x.1
made kind.Piece x = message.Piece x.0 x.1
made kind.Later x = message.Later x.0 x.1
made kind.Fetch x = message.Fetch x.0 x.1
made kind.Grant x = message.Grant x.0 x.1
made kind.NoGrant x = message.NoGrant x.0 x.1
made kind.Full x = message.Full x
made kind.Seek x = message.Seek x.0 x.1
made (kind.Greet why) x = message.Greet x why
made kind.NoneHere x = message.NoneHere x.0 x.1.0 x.1.1
made kind.Gone x = message.Gone x.0 x.1
made kind.Bye x = message.Bye x
made kind.ByeOk x = message.ByeOk x.0 x.1
made kind.Confirm x = message.Confirm x.0 x.1
made kind.PlaceIs x = message.PlaceIs x.0 x.1
made kind.Tell x = message.Tell x.0 x.1
made kind.TellOk x = message.TellOk x.0 x.1.0 x.1.1
made kind.Leave x = message.Leave x.0 x.1
made kind.LeaveOk x = message.LeaveOk x.0 x.1
made kind.Invite x = message.Invite x
made kind.Walk x = message.Walk x.0 x.1.0 x.1.1.0 x.1.1.1.0 x.1.1.1.1

abbrev parts_at : (k : MessageKind) → Field PacketError (Parts k)
parts_at kind.Cell = followed_by ends_at (λ ends. followed_by (of_packet (number_at 8)) (λ tag. cell_at))
parts_at kind.Ack = followed_by ends_at (λ ends. followed_by key_at (λ key. of_packet (number_at 8)))
parts_at kind.Harbinger = followed_by ends_at (λ ends. followed_by (of_packet (number_at 8)) (λ tag. head_at))
parts_at kind.Want = followed_by ends_at (λ ends. wanted_at)
parts_at kind.Delta = followed_by ends_at (λ ends. delta_at)
parts_at kind.Piece = followed_by ends_at (λ ends. piece_at)
parts_at kind.Later = about_at
parts_at kind.Fetch = replica_at
parts_at kind.Grant = followed_by ends_at (λ ends. granted_at)
parts_at kind.NoGrant = replica_at
parts_at kind.Full = ends_at
parts_at kind.Seek = replica_at
parts_at (kind.Greet why) = ends_at
parts_at kind.NoneHere = followed_by ask_at (λ ask. followed_by (of_packet file_at) (λ file. of_packet file_at))
parts_at kind.Gone = replica_at
parts_at kind.Bye = ends_at
parts_at kind.ByeOk = replica_at
parts_at kind.Confirm = listed_at
parts_at kind.PlaceIs = listed_at
parts_at kind.Tell = listed_at
parts_at kind.TellOk = followed_by dir_at (λ dir. followed_by (of_packet file_at) (λ child. of_packet stamp_at))
parts_at kind.Leave = about_at
parts_at kind.LeaveOk = about_at
parts_at kind.Invite = ends_at
parts_at kind.Walk = followed_by ends_at (λ ends. followed_by server_at (λ origin. followed_by (of_packet (number_at 8)) (λ birth. followed_by hops_at (λ hops. of_packet (number_at 8)))))

kind_made : (k : MessageKind) (x : Parts k) → kind_of (made k x) ≡ k
kind_made kind.Cell x = refl
kind_made k x = refl

parts_of : (m : Message) → (x : Parts (kind_of m)) × (made (kind_of m) x ≡ m)
parts_of (message.Cell ends tag cell) = ((ends, (tag, cell)), refl)
parts_of (message.Ack ends key tag) = ((ends, (key, tag)), refl)
parts_of (message.Harbinger ends tag head) = ((ends, (tag, head)), refl)
parts_of (message.Want ends wanted) = ((ends, wanted), refl)
parts_of (message.Delta ends delta) = ((ends, delta), refl)
parts_of (message.Piece ends piece) = ((ends, piece), refl)
parts_of (message.Later ends stamp) = ((ends, stamp), refl)
parts_of (message.Fetch file birth) = ((file, birth), refl)
parts_of (message.Grant ends granted) = ((ends, granted), refl)
parts_of (message.NoGrant file birth) = ((file, birth), refl)
parts_of (message.Full ends) = (ends, refl)
parts_of (message.Seek file birth) = ((file, birth), refl)
parts_of (message.Greet ends why) = (ends, refl)
parts_of (message.NoneHere ask file child) = ((ask, (file, child)), refl)
parts_of (message.Gone file birth) = ((file, birth), refl)
parts_of (message.Bye ends) = (ends, refl)
parts_of (message.ByeOk file birth) = ((file, birth), refl)
parts_of (message.Confirm dir entry) = ((dir, entry), refl)
parts_of (message.PlaceIs dir entry) = ((dir, entry), refl)
parts_of (message.Tell dir entry) = ((dir, entry), refl)
parts_of (message.TellOk dir child stamp) = ((dir, (child, stamp)), refl)
parts_of (message.Leave ends stamp) = ((ends, stamp), refl)
parts_of (message.LeaveOk ends stamp) = ((ends, stamp), refl)
parts_of (message.Invite ends) = (ends, refl)
parts_of (message.Walk ends origin birth hops word) = ((ends, (origin, (birth, (hops, word)))), refl)

fields : (k : MessageKind) → IsField (λ (x : Parts k). IsWholeMessage (made k x)) (λ (x : Parts k). message_bytes (made k x)) (parts_at k)
unfolding message_bytes walk_bytes
fields kind.Cell = then_is ends_field (then_is wide_is cell_field)
fields kind.Ack = then_is ends_field (then_is key_field wide_is)
fields kind.Harbinger = then_is ends_field (then_is wide_is head_field)
fields kind.Want = then_is ends_field wanted_field
fields kind.Delta = then_is ends_field delta_field
fields kind.Piece = then_is ends_field piece_field
fields kind.Later = about_field
fields kind.Fetch = replica_field
fields kind.Grant = then_is ends_field granted_field
fields kind.NoGrant = replica_field
fields kind.Full = ends_field
fields kind.Seek = replica_field
fields (kind.Greet why) = ends_field
fields kind.NoneHere = then_is ask_field (then_is file_is file_is)
fields kind.Gone = replica_field
fields kind.Bye = ends_field
fields kind.ByeOk = replica_field
fields kind.Confirm = listed_field
fields kind.PlaceIs = listed_field
fields kind.Tell = listed_field
fields kind.TellOk = then_is dir_field (then_is file_is stamp_is)
fields kind.Leave = about_field
fields kind.LeaveOk = about_field
fields kind.Invite = ends_field
fields kind.Walk = then_is ends_field (then_is server_field (then_is wide_is (then_is hops_field wide_is)))

abbrev IsOf : MessageKind → Message → Type 0
IsOf k m = IsWholeMessage m × (kind_of m ≡ k)

each : (k : MessageKind) → IsField (IsOf k) message_bytes (seen_as (made k) (parts_at k))
each k = of_kinds kind_of IsWholeMessage message_bytes Parts made parts_at kind_made parts_of fields k

pub message_is : (k : MessageKind) → IsField (IsOf k) message_bytes (message_at k)
unfolding message_at
message_is kind.Cell = each kind.Cell
message_is k = each k
