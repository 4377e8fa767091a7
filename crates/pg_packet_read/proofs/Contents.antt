-- Packets are fields.
use Rattle.std.proofs.Common.{◌≡◌, ℕ, Bool, true, false, cond, eqb, List, ◌++◌, Ok, Err, Some, refl, sym, ap, ◌∙◌, arith}
use Rattle.std.proofs.lemmas.Bool.{eqb-true, eq-eqb}
use Rattle.pg_codec.specs.Laws.{Any, HasWidth, IsField}
use Rattle.pg_codec.specs.Reading.{number_at}
use Rattle.pg_codec.specs.Spelling.{number_bytes}
use Rattle.pg_codec.proofs.Binding.{both_are, checked_is, ok_is}
use Rattle.pg_packet_read.specs.Whole.{IsWholeContent, IsWholeDatagram, byte_at, byte_of, content_at, datagram_at, mark_at, packet_kinds, behind_kind_at}
use Rattle.pg_packet_read.specs.declared.kinds.PacketKind.{PacketKind}
use Rattle.pg_packet_read.specs.declared.kinds.PacketKind.TheVariants as packet
use Rattle.pg_msg.specs.Sent as sent
use Rattle.pg_msg.specs.declared.message.Message.{Message}
use Rattle.pg_msg.specs.declared.message.Message.TheVariants as message
use Rattle.pg_msg.specs.declared.summary.Greeting.TheVariants as greeting
use Rattle.pg_msg.specs.declared.summary.MessageKind.{MessageKind}
use Rattle.pg_msg.specs.declared.summary.MessageKind.TheVariants as kind
use Rattle.pg_packet_write.specs.Datagrams.{content_bytes, kind_of, mark, packet_bytes}
use Rattle.pg_packet_write.specs.Messages.{code_of, greeting_code}
use Rattle.pg_packet_write.specs.declared.datagram.Content.{Content}
use Rattle.pg_packet_write.specs.declared.datagram.Content.TheVariants as content
use Rattle.pg_packet_write.specs.DatagramValue.{DatagramValue}
use Rattle.pg_packet_write.specs.declared.datagram.Request.{Request}
use Rattle.pg_call.specs.declared.reply.Reply.{Reply}
use Rattle.pg_packet_fields.specs.Faults.{of_packet}
use Rattle.pg_packet_fields.specs.declared.error.PacketError.{PacketError}
use Rattle.pg_packet_fields.specs.declared.error.PacketError.TheVariants.{BadTag}
use Rattle.pg_packet_fields.proofs.Joining.{then_is, view_is}
use Rattle.pg_packet_fields.proofs.Plain.{byte_is, narrow_is, wide_is}
use Rattle.pg_packet_read.specs.Calls.{IsWholeRequest}
use Rattle.pg_packet_read.specs.Numbered.{item_at, numbered}
use Rattle.pg_packet_read.specs.Replies.{IsWholeReply}
use Rattle.pg_packet_read.proofs.AskedKinds.{request_field}
use Rattle.pg_packet_read.proofs.Items.{item_is}
use Rattle.pg_packet_read.proofs.ToldKinds.{reply_field}
use Rattle.pg_packet_read.specs.Messages.{IsWholeMessage}
use Rattle.pg_packet_read.proofs.EachMessage.{message_is}

-- ---- the mark

byte_case : (t : Bool) (wanted place n b : ℕ) → eqb n wanted ≡ t → cond t (Ok n) (Err (BadTag place)) ≡ Ok b → (b ≡ wanted) × (b ≡ n)
byte_case true wanted place n b test e =
    let same : n ≡ b = ok_is PacketError n b e in
    let here : n ≡ wanted = eqb-true n wanted test in
    (sym same ∙ here, sym same)
byte_case false wanted place n b test e = absurd cc

byte_tested : (wanted place b : ℕ) → b ≡ wanted → byte_of wanted place b ≡ Ok b
byte_tested wanted place b is = let test : eqb b wanted ≡ true = eq-eqb b wanted is in rw test refl

byte_field : (wanted : ℕ) → HasWidth 1 wanted → IsField (λ n. n ≡ wanted) (number_bytes 1) (byte_at wanted)
byte_field wanted width = checked_is (byte_of wanted) (HasWidth 1) (number_bytes 1) (of_packet (number_at 1)) (λ n. n ≡ wanted) (number_bytes 1)
    (λ place n b fits e. let both = byte_case (eqb n wanted) wanted place n b refl e in (both.0, ap (number_bytes 1) both.1))
    (λ b is. (b, omega (arith, width, is), λ place. byte_tested wanted place b is)) byte_is

mark_spelled : (p g v : ℕ) → p ≡ 80 → g ≡ 71 → v ≡ 1 → mark ≡ number_bytes 1 p ++ (number_bytes 1 g ++ number_bytes 1 v)
unfolding number_bytes
mark_spelled p g v is_p is_g is_v = rw (is_p, is_g, is_v) refl

abbrev mark_view : ℕ × (ℕ × ℕ) → ℕ
mark_view x = x.1.1

abbrev IsFormat : ℕ → Type 0
IsFormat n = n ≡ 1

abbrev mark_bytes : ℕ → List ℕ
mark_bytes n = mark

mark_field : IsField IsFormat mark_bytes mark_at
unfolding mark_at
mark_field = view_is (then_is (byte_field 80 (omega arith)) (then_is (byte_field 71 (omega arith)) (byte_field 1 (omega arith)))) mark_view IsFormat mark_bytes
    (λ x fits. (fits.1.1, mark_spelled x.0 x.1.0 x.1.1 fits.0 fits.1.0 fits.1.1))
    (λ n is. ((80, (71, 1)), (refl, (refl, refl)), sym is))

-- ---- the kinds

abbrev packet_number : PacketKind → ℕ
packet_number (packet.Message kind.Cell) = 1
packet_number (packet.Message kind.Ack) = 2
packet_number (packet.Message kind.Harbinger) = 3
packet_number (packet.Message kind.Want) = 4
packet_number (packet.Message kind.Delta) = 5
packet_number (packet.Message kind.Piece) = 6
packet_number (packet.Message kind.Later) = 7
packet_number (packet.Message kind.Fetch) = 8
packet_number (packet.Message kind.Grant) = 9
packet_number (packet.Message kind.NoGrant) = 10
packet_number (packet.Message kind.Full) = 11
packet_number (packet.Message kind.Seek) = 12
packet_number (packet.Message (kind.Greet why)) = greeting_code why
packet_number (packet.Message kind.NoneHere) = 14
packet_number (packet.Message kind.Gone) = 15
packet_number (packet.Message kind.Bye) = 16
packet_number (packet.Message kind.ByeOk) = 17
packet_number (packet.Message kind.Confirm) = 18
packet_number (packet.Message kind.PlaceIs) = 19
packet_number (packet.Message kind.Tell) = 20
packet_number (packet.Message kind.TellOk) = 21
packet_number (packet.Message kind.Leave) = 22
packet_number (packet.Message kind.LeaveOk) = 23
packet_number (packet.Message kind.Invite) = 24
packet_number (packet.Message kind.Walk) = 25
packet_number packet.Call = 27
packet_number packet.Reply = 28

there : (k : PacketKind) → numbered packet_kinds (packet_number k) ≡ Some k
there (packet.Message kind.Cell) = refl
there (packet.Message (kind.Greet greeting.Here)) = refl
there (packet.Message k) = refl
there packet.Call = refl
there packet.Reply = refl

small : (k : PacketKind) → HasWidth 1 (packet_number k)
small (packet.Message kind.Cell) = omega arith
small (packet.Message (kind.Greet greeting.Here)) = omega arith
small (packet.Message k) = omega arith
small packet.Call = omega arith
small packet.Reply = omega arith

kind_field : IsField Any (λ k. number_bytes 1 (packet_number k)) (item_at packet_kinds)
kind_field = item_is packet_kinds packet_number refl there small

-- ---- what the kinds say

abbrev content_kind : Content → PacketKind
content_kind (content.Message m) = packet.Message (sent.kind_of m)
content_kind (content.Call number asked) = packet.Call
content_kind (content.Reply number reply) = packet.Reply

message_code : (m : Message) → code_of m ≡ packet_number (packet.Message (sent.kind_of m))
message_code (message.Cell ends tag cell) = refl
message_code m = refl

content_code : (c : Content) → kind_of c ≡ packet_number (content_kind c)
content_code (content.Message m) = message_code m
content_code (content.Call number asked) = refl
content_code (content.Reply number reply) = refl

abbrev IsOf : PacketKind → Content → Type 0
IsOf k c = IsWholeContent c × (content_kind c ≡ k)

same_message : (a b : MessageKind) → packet.Message a ≡ packet.Message b → a ≡ b
same_message a b e = cc

message_of : (k : MessageKind) (c : Content) → IsOf (packet.Message k) c
    → (m : Message) × (IsWholeMessage m × (sent.kind_of m ≡ k)) × (content.Message m ≡ c)
message_of k (content.Message m) fits = (m, (fits.0, same_message (sent.kind_of m) k fits.1), refl)
message_of k (content.Call number asked) fits = let wrong = fits.1 in absurd cc
message_of k (content.Reply number reply) fits = let wrong = fits.1 in absurd cc

abbrev call_view : ℕ × Request → Content
call_view x = content.Call x.0 x.1

call_of : (c : Content) → IsOf packet.Call c → (x : ℕ × Request) × (HasWidth 8 x.0 × IsWholeRequest x.1) × (call_view x ≡ c)
call_of (content.Message m) fits = let wrong = fits.1 in absurd cc
call_of (content.Call number asked) fits = ((number, asked), fits.0, refl)
call_of (content.Reply number reply) fits = let wrong = fits.1 in absurd cc

abbrev reply_view : ℕ × Reply → Content
reply_view x = content.Reply x.0 x.1

reply_of : (c : Content) → IsOf packet.Reply c → (x : ℕ × Reply) × (HasWidth 8 x.0 × IsWholeReply x.1) × (reply_view x ≡ c)
reply_of (content.Message m) fits = let wrong = fits.1 in absurd cc
reply_of (content.Call number asked) fits = let wrong = fits.1 in absurd cc
reply_of (content.Reply number reply) fits = ((number, reply), fits.0, refl)

content_is : (k : PacketKind) → IsField (IsOf k) content_bytes (content_at k)
unfolding content_at content_bytes
content_is (packet.Message k) = view_is (message_is k) (λ m. content.Message m) (IsOf (packet.Message k)) content_bytes
    (λ m fits. ((fits.0, ap packet.Message fits.1), refl)) (message_of k)
content_is packet.Call = view_is (then_is wide_is request_field) call_view (IsOf packet.Call) content_bytes (λ x fits. ((fits, refl), refl)) call_of
content_is packet.Reply = view_is (then_is wide_is reply_field) reply_view (IsOf packet.Reply) content_bytes (λ x fits. ((fits, refl), refl)) reply_of

-- ---- packets

abbrev IsTold : PacketKind → ℕ × (ℕ × Content) → Type 0
IsTold k x = HasWidth 4 x.0 × (HasWidth 8 x.1.0 × IsOf k x.1.1)

abbrev told_bytes : PacketKind → ℕ × (ℕ × Content) → List ℕ
told_bytes k x = number_bytes 4 x.0 ++ (number_bytes 8 x.1.0 ++ content_bytes x.1.1)

told_is : (k : PacketKind) → IsField (IsTold k) (told_bytes k) (behind_kind_at k)
unfolding behind_kind_at
told_is k = then_is narrow_is (then_is wide_is (content_is k))

abbrev datagram_view : ℕ × (PacketKind × (ℕ × (ℕ × Content))) → DatagramValue
datagram_view x = record { from = x.1.1.0; view = x.1.1.1.0; content = x.1.1.1.1 }

datagram_spelled : (k : PacketKind) (from view : ℕ) (c : Content) → content_kind c ≡ k
    → packet_bytes (record { from = from; view = view; content = c })
    ≡ mark ++ (number_bytes 1 (packet_number k) ++ (number_bytes 4 from ++ (number_bytes 8 view ++ content_bytes c)))
unfolding packet_bytes
datagram_spelled k from view c is =
    ap (λ (n : ℕ). mark ++ (number_bytes 1 n ++ (number_bytes 4 from ++ (number_bytes 8 view ++ content_bytes c)))) (content_code c ∙ ap packet_number is)

pub datagram_field : IsField IsWholeDatagram packet_bytes datagram_at
unfolding datagram_at
datagram_field = view_is
    (then_is mark_field
    (both_are Any (λ k. number_bytes 1 (packet_number k)) (item_at packet_kinds) IsTold told_bytes (λ k. behind_kind_at k) kind_field
    (λ k _. told_is k))) datagram_view IsWholeDatagram packet_bytes
    (λ x fits. (record { from = fits.1.1.0; view = fits.1.1.1.0; content = fits.1.1.1.1.0 }, datagram_spelled x.1.0 x.1.1.0 x.1.1.1.0 x.1.1.1.1 fits.1.1.1.1.1))
    (λ d fits. ((1, (content_kind d.content, (d.from, (d.view, d.content)))), (refl, (tt, (fits.from, (fits.view, (fits.content, refl))))), refl))
