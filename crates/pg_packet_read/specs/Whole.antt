-- Whole packets.
use Rattle.std.specs.Prelude.{ℕ, ◌<◌, ◌^◌, List, [], ◌∷◌, length, take, Result, Ok, Err, nat_lt, ◌==◌, if◌then◌else◌}
use Rattle.pg_codec.specs.Laws.{HasWidth}
use Rattle.pg_codec.specs.Reading.{Field, ◌>>=◌, followed_by, seen_as, checked, number_at, unread}
use Rattle.pg_codec.specs.Unread.{Unread}
use Rattle.pg_packet_read.specs.declared.kinds.PacketKind.{PacketKind}
use Rattle.pg_packet_read.specs.declared.kinds.PacketKind.TheVariants as packet
use Rattle.pg_msg.specs.declared.summary.Greeting.TheVariants as greeting
use Rattle.pg_msg.specs.declared.summary.MessageKind.TheVariants as kind
use Rattle.pg_packet_write.specs.declared.datagram.Content.{Content}
use Rattle.pg_packet_write.specs.declared.datagram.Content.TheVariants as content
use Rattle.pg_packet_write.specs.DatagramValue.{DatagramValue}
use Rattle.pg_packet_fields.specs.Faults.{of_packet}
use Rattle.pg_packet_fields.specs.declared.error.PacketError.{PacketError}
use Rattle.pg_packet_fields.specs.declared.error.PacketError.TheVariants.{OutOfMemory, Short, BadTag, TooLong, Tail}
use Rattle.pg_packet_read.specs.Calls.{IsWholeRequest, request_at}
use Rattle.pg_packet_read.specs.Numbered.{item_at}
use Rattle.pg_packet_read.specs.Replies.{IsWholeReply, reply_at}
use Rattle.pg_packet_read.specs.Messages.{IsWholeMessage, message_at}

-- the kinds of packets by number
abbrev pub packet_kinds : List PacketKind
packet_kinds = packet.Message kind.Cell ∷ packet.Message kind.Ack ∷ packet.Message kind.Harbinger
    ∷ packet.Message kind.Want ∷ packet.Message kind.Delta ∷ packet.Message kind.Piece
    ∷ packet.Message kind.Later ∷ packet.Message kind.Fetch ∷ packet.Message kind.Grant
    ∷ packet.Message kind.NoGrant ∷ packet.Message kind.Full ∷ packet.Message kind.Seek
    ∷ packet.Message (kind.Greet greeting.Here) ∷ packet.Message kind.NoneHere
    ∷ packet.Message kind.Gone ∷ packet.Message kind.Bye ∷ packet.Message kind.ByeOk
    ∷ packet.Message kind.Confirm
    ∷ packet.Message kind.PlaceIs ∷ packet.Message kind.Tell ∷ packet.Message kind.TellOk
    ∷ packet.Message kind.Leave ∷ packet.Message kind.LeaveOk ∷ packet.Message kind.Invite
    ∷ packet.Message kind.Walk ∷ packet.Message (kind.Greet greeting.Meet) ∷ packet.Call
    ∷ packet.Reply ∷ []

-- this byte, else a fault at the place
abbrev pub byte_of : ℕ → ℕ → ℕ → Result ℕ PacketError
byte_of wanted place n = if n == wanted then Ok n else Err (BadTag place)

abbrev pub byte_at : ℕ → Field PacketError ℕ
byte_at wanted from = checked (byte_of wanted) (of_packet (number_at 1)) from

-- `PG`, and the number of this format
unfoldable pub mark_at : Field PacketError ℕ
mark_at from = seen_as (λ x. x.1.1)
    (followed_by (byte_at 80) (λ p. followed_by (byte_at 71) (λ g. byte_at 1))) from

-- what a packet of the kind is for
unfoldable pub content_at : PacketKind → Field PacketError Content
content_at (packet.Message kind) from = seen_as (λ x. content.Message x) (message_at kind) from
content_at packet.Call from = seen_as (λ x. content.Call x.0 x.1)
    (followed_by (of_packet (number_at 8)) (λ number. request_at)) from
content_at packet.Reply from = seen_as (λ x. content.Reply x.0 x.1)
    (followed_by (of_packet (number_at 8)) (λ number. reply_at)) from

-- the sender, the view, and what the kind says
unfoldable pub behind_kind_at : PacketKind → Field PacketError (ℕ × (ℕ × Content))
behind_kind_at kind from = followed_by (of_packet (number_at 4))
    (λ sender. followed_by (of_packet (number_at 8)) (λ view. content_at kind)) from

-- of the sender, the view, and what the kind says
abbrev pub datagram_with : ℕ × (ℕ × Content) → DatagramValue
datagram_with x = record { from = x.0; view = x.1.0; content = x.1.1 }

-- the mark, the kind, and what stands behind the kind
unfoldable pub datagram_at : Field PacketError DatagramValue
datagram_at from = seen_as (λ x. datagram_with x.1.1)
    (followed_by mark_at
    (λ mark. followed_by (item_at packet_kinds) (λ kind. behind_kind_at kind))) from

-- nothing stands behind it
abbrev pub ended : DatagramValue × Unread → Result DatagramValue PacketError
ended x = if length x.1.rest == 0 then Ok x.0 else Err (Tail x.1.place)

-- the packet that the bytes are
unfoldable pub whole : List ℕ → Result DatagramValue PacketError
whole bytes = datagram_at (unread bytes) >>= ended

-- what is wrong with too many bytes, of which the most were read: what is wrong with these, and
-- else that there are more
abbrev pub cut_fault : ℕ → PacketError → PacketError
cut_fault most OutOfMemory = OutOfMemory
cut_fault most (Short place) = TooLong most
cut_fault most (BadTag place) = BadTag place
cut_fault most (TooLong place) = TooLong place
cut_fault most (Tail place) = Tail place

abbrev pub cut_off : ℕ → Result DatagramValue PacketError → Result DatagramValue PacketError
cut_off most (Ok d) = Err (TooLong most)
cut_off most (Err e) = Err (cut_fault most e)

-- the packet that the bytes are, of which there are at most so many
unfoldable pub packet_within : ℕ → List ℕ → Result DatagramValue PacketError
packet_within most bytes = if nat_lt most (length bytes) then cut_off most (whole (take most bytes))
    else whole bytes

-- a packet has at most 40,000 bytes
abbrev pub packet_of : List ℕ → Result DatagramValue PacketError
packet_of bytes = packet_within 40000 bytes

-- ---- what can be read

abbrev pub IsWholeContent : Content → Type 0
IsWholeContent (content.Message message) = IsWholeMessage message
IsWholeContent (content.Call number asked) = HasWidth 8 number × IsWholeRequest asked
IsWholeContent (content.Reply number reply) = HasWidth 8 number × IsWholeReply reply

pub record IsWholeDatagram (d : DatagramValue) : Type 0 where
  pub from : d.from < 2 ^ 32
  pub view : d.view < 2 ^ 64
  pub content : IsWholeContent d.content
