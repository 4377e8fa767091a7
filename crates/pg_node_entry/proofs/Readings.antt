-- Bytes are read exactly where they are an entry's spelling.
use Rattle.std.proofs.Common.{◌≡◌, ℕ, suc, ◌+◌, ◌≤◌, Bool, true, false, cond, eqb, List, [], ◌∷◌, ◌++◌, length, Result, Ok, Err, refl, sym, ap, subst, ◌∙◌, arith}
use Rattle.std.specs.Prelude.{IfOk, nat_lt, ◌&&◌}
use Rattle.std.proofs.lemmas.Bool.{eqb-true}
use Rattle.std.proofs.lemmas.List.{append-nil}
use Rattle.pg_codec.specs.Laws.{AreBytes}
use Rattle.pg_codec.specs.Reading.{unread}
use Rattle.pg_codec.specs.Spelling.{number_bytes}
use Rattle.pg_codec.specs.Unread.{Unread}
use Rattle.pg_codec.proofs.Binding.{bind_ok, ok_is}
use Rattle.pg_msg.specs.declared.message.Message.{Message}
use Rattle.pg_msg.specs.declared.message.Message.TheVariants as message
use Rattle.pg_msg.specs.declared.message.Packet.{Packet}
use Rattle.pg_msg.specs.declared.summary.Greeting.TheVariants as greeting
use Rattle.pg_node_entry.specs.Entries.{FitsEntry, IsWholeArrival, IsWholeEntry, carrier, entry_bytes}
use Rattle.pg_node_entry.specs.Reading.{Gives, arrival_of, begins_other, carried, ended, entry_at, entry_of, message_in, placed, plain_of}
use Rattle.pg_node_entry.specs.declared.entry.NodeEntry.{NodeEntry}
use Rattle.pg_node_entry.specs.declared.entry.NodeEntry.TheVariants as entry
use Rattle.pg_node_entry.specs.declared.error.EntryError.{EntryError}
use Rattle.pg_node_entry.specs.declared.error.EntryError.TheVariants as fault
use Rattle.pg_node_entry.proofs.Plain.{IsPlain, entry_field, plain_bytes, plain_is}
use Rattle.pg_packet_fields.specs.declared.error.PacketError.{PacketError}
use Rattle.pg_packet_fields.specs.declared.error.PacketError.TheVariants.{Tail}
use Rattle.pg_packet_read.specs.Whole.{packet_of}
use Rattle.pg_packet_read.proofs.Spelled as packets
use Rattle.pg_packet_read.proofs.WritableCalls.{fits_request}
use Rattle.pg_packet_read.proofs.WritableMessages.{fits_message}
use Rattle.pg_packet_write.specs.DatagramValue.{DatagramValue}
use Rattle.pg_packet_write.specs.Datagrams.{packet_bytes}
use Rattle.pg_packet_write.specs.declared.datagram.Content.{Content}
use Rattle.pg_packet_write.specs.declared.datagram.Content.TheVariants as content
use Rattle.pg_packet_write.specs.declared.datagram.Request.TheVariants as request

-- ---- entries that carry no packet

read_alone : (e : NodeEntry) → IsPlain e → entry_at (unread (plain_bytes e)) ≡ Ok (e, record { place = 0 + length (plain_bytes e); rest = [] })
read_alone e fits =
    ap (λ (bytes : List ℕ). entry_at (unread bytes)) (sym (append-nil (plain_bytes e))) ∙ entry_field.again e 0 [] fits

plain_read : (e : NodeEntry) → IsPlain e → plain_of (plain_bytes e) ≡ Ok e
unfolding plain_of
plain_read e fits = rw (read_alone e fits) refl

no_more : (bytes : List ℕ) → length bytes ≡ 0 → bytes ≡ []
no_more [] e = refl
no_more (b ∷ bs) e = absurd (omega (arith, e))

ended_case : (t : Bool) (x : NodeEntry × Unread) (e : NodeEntry) → eqb (length x.1.rest) 0 ≡ t → cond t (Ok x.0) (Err (Tail x.1.place)) ≡ Ok e
    → (x.0 ≡ e) × (x.1.rest ≡ [])
ended_case true x e test is = (ok_is PacketError x.0 e is, no_more x.1.rest (eqb-true (length x.1.rest) 0 test))
ended_case false x e test is = absurd cc

plain_spelled : (bytes : List ℕ) (e : NodeEntry) → AreBytes bytes → plain_of bytes ≡ Ok e → IsPlain e × (bytes ≡ plain_bytes e)
unfolding plain_of
plain_spelled bytes e width is =
    let read = bind_ok (entry_at (unread bytes)) ended e is in
    let end = ended_case (eqb (length read.0.1.rest) 0) read.0 e refl read.2 in
    let taken = entry_field.takes (unread bytes) read.0 width read.1 in
    let all : bytes ≡ plain_bytes read.0.0 = taken.1.parts ∙ ap (λ (rest : List ℕ). plain_bytes read.0.0 ++ rest) end.1 ∙ append-nil (plain_bytes read.0.0) in
    subst (λ (x : NodeEntry). IsPlain x × (bytes ≡ plain_bytes x)) end.0 (taken.0, all)

plain_written : (e : NodeEntry) → IsPlain e → placed (plain_of (entry_bytes e)) ≡ Ok e
plain_written e fits = rw (← plain_is e fits, plain_read e fits) refl

placed_ok : (r : Result NodeEntry PacketError) (e : NodeEntry) → placed r ≡ Ok e → r ≡ Ok e
placed_ok (Ok x) e is = ap (λ (y : NodeEntry). Ok y) (ok_is EntryError x e is)
placed_ok (Err f) e is = absurd cc

plain_whole : (e : NodeEntry) → IsPlain e → IsWholeEntry e
plain_whole (entry.Call moment call) fits = fits
plain_whole (entry.Tick moment word) fits = fits
plain_whole (entry.Arrival packet) fits = absurd fits
plain_whole entry.Restart fits = fits
plain_whole (entry.First server servers) fits = fits

-- ---- arrivals

and_no : (b : Bool) → (b && false) ≡ false
and_no true = refl
and_no false = refl

abbrev message_packet : ℕ → ℕ → Message → DatagramValue
message_packet from view m = record { from = from; view = view; content = content.Message m }

-- no message has the number of a call or of a reply
begins_message : (from view : ℕ) (m : Message) → begins_other (packet_bytes (message_packet from view m)) ≡ false
unfolding begins_other packet_bytes number_bytes
begins_message from view (message.Cell ends tag cell) = and_no (nat_lt 3 (length (packet_bytes (message_packet from view (message.Cell ends tag cell)))))
begins_message from view (message.Greet ends greeting.Here) = and_no (nat_lt 3 (length (packet_bytes (message_packet from view (message.Greet ends greeting.Here)))))
begins_message from view m = and_no (nat_lt 3 (length (packet_bytes (message_packet from view m))))

arrival_written : (p : Packet) → IsWholeArrival p → arrival_of (packet_bytes (carrier p)) ≡ Ok (entry.Arrival p)
unfolding arrival_of
arrival_written p w =
    let message = begins_message p.from p.view p.message in
    let read = packets.written 40000 (carrier p) w.packet w.short in
    rw (message, read) refl

carried_ok : (r : Result DatagramValue PacketError) (e : NodeEntry) → carried r ≡ Ok e → (d : DatagramValue) × (r ≡ Ok d) × (message_in d d.content ≡ Ok e)
carried_ok (Ok d) e is = (d, refl, is)
carried_ok (Err f) e is = absurd cc

abbrev with_content : DatagramValue → Content → DatagramValue
with_content d c = record { from = d.from; view = d.view; content = c }

message_ok : (d : DatagramValue) (c : Content) (e : NodeEntry) → d.content ≡ c → message_in d c ≡ Ok e → (p : Packet) × (entry.Arrival p ≡ e) × (d ≡ carrier p)
message_ok d (content.Message m) e is same =
    let p : Packet = record { from = d.from; view = d.view; message = m } in
    let here : d ≡ carrier p = ap (λ (x : Content). with_content d x) is in
    (p, ok_is EntryError (entry.Arrival p) e same, here)
message_ok d (content.Call number asked) e is same = absurd cc
message_ok d (content.Reply number reply) e is same = absurd cc

arrival_case : (t : Bool) (bytes : List ℕ) (e : NodeEntry) → cond t (Err (fault.Bad 4)) (carried (packet_of bytes)) ≡ Ok e → carried (packet_of bytes) ≡ Ok e
arrival_case true bytes e is = absurd cc
arrival_case false bytes e is = is

arrival_spelled : (bytes : List ℕ) (e : NodeEntry) → AreBytes bytes → arrival_of bytes ≡ Ok e
    → IsWholeEntry e × (number_bytes 1 3 ++ bytes ≡ entry_bytes e)
unfolding arrival_of entry_bytes
arrival_spelled bytes e width is =
    let read = carried_ok (packet_of bytes) e (arrival_case (begins_other bytes) bytes e is) in
    let brought = message_ok read.0 read.0.content e refl read.2 in
    let got : packet_of bytes ≡ Ok (carrier brought.0) = subst (λ (d : DatagramValue). packet_of bytes ≡ Ok d) brought.2 read.1 in
    let spelled = packets.spelled 40000 bytes (carrier brought.0) width got in
    let few = packets.short 40000 bytes (carrier brought.0) got in
    let arrived : IsWholeArrival brought.0 = record { packet = spelled.0; short = subst (λ (b : List ℕ). length b ≤ 40000) spelled.1 few } in
    subst (λ (x : NodeEntry). IsWholeEntry x × (number_bytes 1 3 ++ bytes ≡ entry_bytes x)) brought.1 (arrived, ap (λ (b : List ℕ). number_bytes 1 3 ++ b) spelled.1)

-- ---- entries

pub written : (e : NodeEntry) → IsWholeEntry e → entry_of (entry_bytes e) ≡ Ok e
unfolding entry_of entry_bytes number_bytes
written (entry.Call moment call) w = plain_written (entry.Call moment call) w
written (entry.Tick moment word) w = plain_written (entry.Tick moment word) w
written (entry.Arrival packet) w = arrival_written packet w
written entry.Restart w = plain_written entry.Restart w
written (entry.First server servers) w = plain_written (entry.First server servers) w

one_byte : (bytes : List ℕ) → number_bytes 1 3 ++ bytes ≡ 3 ∷ bytes
unfolding number_bytes
one_byte bytes = refl

spelled_case : (t : Bool) (number : ℕ) (rest : List ℕ) (e : NodeEntry) → eqb number 3 ≡ t → AreBytes (number ∷ rest)
    → cond t (arrival_of rest) (placed (plain_of (number ∷ rest))) ≡ Ok e → IsWholeEntry e × (number ∷ rest ≡ entry_bytes e)
spelled_case true number rest e test width is =
    let at : number ≡ 3 = eqb-true number 3 test in
    let arrived = arrival_spelled rest e (λ i. width (suc i)) is in
    (arrived.0, ap (λ (n : ℕ). n ∷ rest) at ∙ sym (one_byte rest) ∙ arrived.1)
spelled_case false number rest e test width is =
    let plain = plain_spelled (number ∷ rest) e width (placed_ok (plain_of (number ∷ rest)) e is) in
    (plain_whole e plain.0, plain.1 ∙ plain_is e plain.0)

pub spelled : (bytes : List ℕ) (e : NodeEntry) → AreBytes bytes → entry_of bytes ≡ Ok e → IsWholeEntry e × (bytes ≡ entry_bytes e)
unfolding entry_of
spelled [] e width is = absurd cc
spelled (number ∷ rest) e width is = spelled_case (eqb number 3) number rest e refl width is

pub apart : (a b : NodeEntry) → IsWholeEntry a → IsWholeEntry b → entry_bytes a ≡ entry_bytes b → a ≡ b
apart a b fits_a fits_b same =
    ok_is EntryError a b (sym (written a fits_a) ∙ ap entry_of same ∙ written b fits_b)

-- ---- what is read can be written again

pub fits_entry : (e : NodeEntry) → IsWholeEntry e → FitsEntry e
fits_entry (entry.Call moment call) w = fits_request (request.Call call) w.1
fits_entry (entry.Tick moment word) w = tt
fits_entry (entry.Arrival packet) w = record { message = fits_message packet.message w.packet.content; short = w.short }
fits_entry entry.Restart w = tt
fits_entry (entry.First server servers) w = tt

pub fits : (bytes : List ℕ) (e : NodeEntry) → AreBytes bytes → entry_of bytes ≡ Ok e → FitsEntry e
fits bytes e width is = fits_entry e (spelled bytes e width is).0

-- what a reading gives can be written again
pub given_fits : (bytes : List ℕ) (r : Result NodeEntry EntryError) → AreBytes bytes → Gives r (entry_of bytes) → IfOk r (λ e. FitsEntry e)
given_fits bytes (Ok e) width read = fits bytes e width read
given_fits bytes (Err e) width read = tt
