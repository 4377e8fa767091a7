-- What each kind of message says.
use Rattle.pg_base.specs.Id.{Fits}
use Rattle.pg_codec.specs.Laws.{Any, HasStampWidth, HasWidth}
use Rattle.pg_codec.specs.Reading.{Field, followed_by, seen_as, file_at, number_at, stamp_at}
use Rattle.pg_msg.specs.declared.message.Message.{Message}
use Rattle.pg_msg.specs.declared.message.Message.TheVariants as message
use Rattle.pg_msg.specs.declared.summary.MessageKind.{MessageKind}
use Rattle.pg_msg.specs.declared.summary.MessageKind.TheVariants as kind
use Rattle.pg_packet_write.specs.Fits.{IsServer}
use Rattle.pg_packet_fields.specs.Cells.{IsWholeCell, cell_at}
use Rattle.pg_packet_fields.specs.Faults.{of_packet}
use Rattle.pg_packet_fields.specs.Heads.{IsHead, head_at}
use Rattle.pg_packet_fields.specs.Places.{IsWholeEntry}
use Rattle.pg_packet_fields.specs.Reading.{ask_at, dir_at, ends_at, key_at, server_at}
use Rattle.pg_packet_fields.specs.Values.{AreEnds, IsKey}
use Rattle.pg_packet_fields.specs.declared.error.PacketError.{PacketError}
use Rattle.pg_packet_read.specs.MessageFields.{IsDelta, IsGranted, IsHops, IsPiece, IsWanted, about_at, delta_at, granted_at, hops_at, piece_at, replica_at, listed_at, wanted_at}
use Rattle.pg_words.specs.FileWord.{IsDirectory}

-- the fields of the kind, in their order
unfoldable pub message_at : MessageKind → Field PacketError Message
message_at kind.Cell from = seen_as (λ x. message.Cell x.0 x.1.0 x.1.1) (followed_by ends_at
    (λ ends. followed_by (of_packet (number_at 8)) (λ tag. cell_at))) from
message_at kind.Ack from = seen_as (λ x. message.Ack x.0 x.1.0 x.1.1) (followed_by ends_at
    (λ ends. followed_by key_at (λ key. of_packet (number_at 8)))) from
message_at kind.Harbinger from = seen_as (λ x. message.Harbinger x.0 x.1.0 x.1.1)
    (followed_by ends_at (λ ends. followed_by (of_packet (number_at 8)) (λ tag. head_at))) from
message_at kind.Want from =
    seen_as (λ x. message.Want x.0 x.1) (followed_by ends_at (λ ends. wanted_at)) from
message_at kind.Delta from =
    seen_as (λ x. message.Delta x.0 x.1) (followed_by ends_at (λ ends. delta_at)) from
message_at kind.Piece from =
    seen_as (λ x. message.Piece x.0 x.1) (followed_by ends_at (λ ends. piece_at)) from
message_at kind.Later from = seen_as (λ x. message.Later x.0 x.1) about_at from
message_at kind.Fetch from = seen_as (λ x. message.Fetch x.0 x.1) replica_at from
message_at kind.Grant from =
    seen_as (λ x. message.Grant x.0 x.1) (followed_by ends_at (λ ends. granted_at)) from
message_at kind.NoGrant from = seen_as (λ x. message.NoGrant x.0 x.1) replica_at from
message_at kind.Full from = seen_as (λ x. message.Full x) ends_at from
message_at kind.Seek from = seen_as (λ x. message.Seek x.0 x.1) replica_at from
message_at (kind.Greet why) from = seen_as (λ x. message.Greet x why) ends_at from
message_at kind.NoneHere from = seen_as (λ x. message.NoneHere x.0 x.1.0 x.1.1) (followed_by ask_at
    (λ ask. followed_by (of_packet file_at) (λ file. of_packet file_at))) from
message_at kind.Gone from = seen_as (λ x. message.Gone x.0 x.1) replica_at from
message_at kind.Bye from = seen_as (λ x. message.Bye x) ends_at from
message_at kind.ByeOk from = seen_as (λ x. message.ByeOk x.0 x.1) replica_at from
message_at kind.Confirm from = seen_as (λ x. message.Confirm x.0 x.1) listed_at from
message_at kind.PlaceIs from = seen_as (λ x. message.PlaceIs x.0 x.1) listed_at from
message_at kind.Tell from = seen_as (λ x. message.Tell x.0 x.1) listed_at from
message_at kind.TellOk from = seen_as (λ x. message.TellOk x.0 x.1.0 x.1.1) (followed_by dir_at
    (λ dir. followed_by (of_packet file_at) (λ child. of_packet stamp_at))) from
message_at kind.Leave from = seen_as (λ x. message.Leave x.0 x.1) about_at from
message_at kind.LeaveOk from = seen_as (λ x. message.LeaveOk x.0 x.1) about_at from
message_at kind.Invite from = seen_as (λ x. message.Invite x) ends_at from
message_at kind.Walk from =
    seen_as (λ x. message.Walk x.0 x.1.0 x.1.1.0 x.1.1.1.0 x.1.1.1.1) (followed_by ends_at
    (λ ends. followed_by server_at (λ origin. followed_by (of_packet (number_at 8))
    (λ birth. followed_by hops_at (λ hops. of_packet (number_at 8)))))) from

-- what can be read: of each kind what its fields can have, in their order
abbrev pub IsWholeMessage : Message → Type 0
IsWholeMessage (message.Cell ends tag cell) = AreEnds ends × (HasWidth 8 tag × IsWholeCell cell)
IsWholeMessage (message.Ack ends key tag) = AreEnds ends × (IsKey key × HasWidth 8 tag)
IsWholeMessage (message.Harbinger ends tag head) = AreEnds ends × (HasWidth 8 tag × IsHead head)
IsWholeMessage (message.Want ends wanted) = AreEnds ends × IsWanted wanted
IsWholeMessage (message.Delta ends delta) = AreEnds ends × IsDelta delta
IsWholeMessage (message.Piece ends piece) = AreEnds ends × IsPiece piece
IsWholeMessage (message.Later ends stamp) = AreEnds ends × HasStampWidth stamp
IsWholeMessage (message.Fetch file birth) = Fits file × HasWidth 8 birth
IsWholeMessage (message.Grant ends granted) = AreEnds ends × IsGranted granted
IsWholeMessage (message.NoGrant file birth) = Fits file × HasWidth 8 birth
IsWholeMessage (message.Full ends) = AreEnds ends
IsWholeMessage (message.Seek file birth) = Fits file × HasWidth 8 birth
IsWholeMessage (message.Greet ends why) = AreEnds ends
IsWholeMessage (message.NoneHere ask file child) = Any ask × (Fits file × Fits child)
IsWholeMessage (message.Gone file birth) = Fits file × HasWidth 8 birth
IsWholeMessage (message.Bye ends) = AreEnds ends
IsWholeMessage (message.ByeOk file birth) = Fits file × HasWidth 8 birth
IsWholeMessage (message.Confirm dir entry) = IsDirectory dir × IsWholeEntry entry
IsWholeMessage (message.PlaceIs dir entry) = IsDirectory dir × IsWholeEntry entry
IsWholeMessage (message.Tell dir entry) = IsDirectory dir × IsWholeEntry entry
IsWholeMessage (message.TellOk dir child stamp) =
    IsDirectory dir × (Fits child × HasStampWidth stamp)
IsWholeMessage (message.Leave ends stamp) = AreEnds ends × HasStampWidth stamp
IsWholeMessage (message.LeaveOk ends stamp) = AreEnds ends × HasStampWidth stamp
IsWholeMessage (message.Invite ends) = AreEnds ends
IsWholeMessage (message.Walk ends origin birth hops word) =
    AreEnds ends × (IsServer origin × (HasWidth 8 birth × (IsHops hops × HasWidth 8 word)))
