-- Bytes are read exactly where they are a packet's spelling, and none begins another.
use Rattle.std.proofs.Common.{◌≡◌, ℕ, ◌+◌, ◌≤◌, Bool, true, false, cond, eqb, ltb, List, [], ◌∷◌, ◌++◌, length, take, Result, Ok, Err, refl, sym, ap, subst, ◌∙◌, arith}
use Rattle.std.proofs.lemmas.Bool.{eqb-true, ltb-false, le-ltb}
use Rattle.std.proofs.lemmas.List.{append-nil}
use Rattle.pg_codec.specs.Laws.{AreBytes}
use Rattle.pg_codec.specs.Reading.{unread}
use Rattle.pg_codec.specs.Unread.{Unread}
use Rattle.pg_codec.proofs.Binding.{bind_ok, ok_is}
use Rattle.pg_packet_read.specs.Whole.{IsWholeContent, IsWholeDatagram, cut_off, datagram_at, ended, packet_within, whole}
use Rattle.pg_packet_write.specs.Datagrams.{FitsContent, packet_bytes}
use Rattle.pg_packet_write.specs.declared.datagram.Content.{Content}
use Rattle.pg_packet_write.specs.declared.datagram.Content.TheVariants as content
use Rattle.pg_packet_write.specs.DatagramValue.{DatagramValue}
use Rattle.pg_packet_fields.specs.declared.error.PacketError.{PacketError}
use Rattle.pg_packet_fields.specs.declared.error.PacketError.TheVariants.{Tail}
use Rattle.pg_packet_read.proofs.WritableCalls.{fits_reply, fits_request}
use Rattle.pg_packet_read.proofs.WritableMessages.{fits_message}
use Rattle.pg_packet_read.proofs.Contents.{datagram_field}

-- ---- packets of any length

read_alone : (d : DatagramValue) → IsWholeDatagram d → datagram_at (unread (packet_bytes d)) ≡ Ok (d, record { place = 0 + length (packet_bytes d); rest = [] })
read_alone d fits =
    ap (λ (bytes : List ℕ). datagram_at (unread bytes)) (sym (append-nil (packet_bytes d))) ∙ datagram_field.again d 0 [] fits

whole_written : (d : DatagramValue) → IsWholeDatagram d → whole (packet_bytes d) ≡ Ok d
unfolding whole
whole_written d fits = rw (read_alone d fits) refl

no_more : (bytes : List ℕ) → length bytes ≡ 0 → bytes ≡ []
no_more [] e = refl
no_more (b ∷ bs) e = absurd (omega (arith, e))

ended_case : (t : Bool) (x : DatagramValue × Unread) (d : DatagramValue) → eqb (length x.1.rest) 0 ≡ t → cond t (Ok x.0) (Err (Tail x.1.place)) ≡ Ok d
    → (x.0 ≡ d) × (x.1.rest ≡ [])
ended_case true x d test e = (ok_is PacketError x.0 d e, no_more x.1.rest (eqb-true (length x.1.rest) 0 test))
ended_case false x d test e = absurd cc

whole_spelled : (bytes : List ℕ) (d : DatagramValue) → AreBytes bytes → whole bytes ≡ Ok d → IsWholeDatagram d × (bytes ≡ packet_bytes d)
unfolding whole
whole_spelled bytes d width e =
    let read = bind_ok (datagram_at (unread bytes)) ended d e in
    let end = ended_case (eqb (length read.0.1.rest) 0) read.0 d refl read.2 in
    let taken = datagram_field.takes (unread bytes) read.0 width read.1 in
    let all : bytes ≡ packet_bytes read.0.0 = taken.1.parts ∙ ap (λ (rest : List ℕ). packet_bytes read.0.0 ++ rest) end.1 ∙ append-nil (packet_bytes read.0.0) in
    subst (λ (x : DatagramValue). IsWholeDatagram x × (bytes ≡ packet_bytes x)) end.0 (taken.0, all)

-- ---- packets of at most so many bytes

pub written : (most : ℕ) (d : DatagramValue) → IsWholeDatagram d → length (packet_bytes d) ≤ most → packet_within most (packet_bytes d) ≡ Ok d
unfolding packet_within
written most d fits few =
    let test : ltb most (length (packet_bytes d)) ≡ false = le-ltb most (length (packet_bytes d)) few in
    rw test (whole_written d fits)

not_cut : (most : ℕ) (r : Result DatagramValue PacketError) (d : DatagramValue) → cut_off most r ≡ Ok d → ⊥
not_cut most (Ok x) d e = absurd cc
not_cut most (Err f) d e = absurd cc

within_case : (t : Bool) (most : ℕ) (bytes : List ℕ) (d : DatagramValue) → ltb most (length bytes) ≡ t
    → cond t (cut_off most (whole (take most bytes))) (whole bytes) ≡ Ok d → (length bytes ≤ most) × (whole bytes ≡ Ok d)
within_case true most bytes d test e = absurd (not_cut most (whole (take most bytes)) d e)
within_case false most bytes d test e = (ltb-false most (length bytes) test, e)

within : (most : ℕ) (bytes : List ℕ) (d : DatagramValue) → packet_within most bytes ≡ Ok d → (length bytes ≤ most) × (whole bytes ≡ Ok d)
unfolding packet_within
within most bytes d e = within_case (ltb most (length bytes)) most bytes d refl e

pub spelled : (most : ℕ) (bytes : List ℕ) (d : DatagramValue) → AreBytes bytes → packet_within most bytes ≡ Ok d → IsWholeDatagram d × (bytes ≡ packet_bytes d)
spelled most bytes d width e = whole_spelled bytes d width (within most bytes d e).1

pub short : (most : ℕ) (bytes : List ℕ) (d : DatagramValue) → packet_within most bytes ≡ Ok d → length bytes ≤ most
short most bytes d e = (within most bytes d e).0

-- ---- no spelling begins another

abbrev read_as : DatagramValue → ℕ → List ℕ → Result (DatagramValue × Unread) PacketError
read_as d place rest = Ok (d, record { place = place; rest = rest })

same_read : (a b : DatagramValue) (p q : ℕ) (rest : List ℕ) → read_as a p rest ≡ read_as b q [] → (a ≡ b) × (rest ≡ [])
same_read a b p q rest e =
    let same = ok_is PacketError (a, record { place = p; rest = rest }) (b, record { place = q; rest = [] }) e in
    (ap (λ (x : DatagramValue × Unread). x.0) same, ap (λ (x : DatagramValue × Unread). x.1.rest) same)

pub apart : (a b : DatagramValue) (rest : List ℕ) → IsWholeDatagram a → IsWholeDatagram b → packet_bytes a ++ rest ≡ packet_bytes b → (a ≡ b) × (rest ≡ [])
apart a b rest fits_a fits_b same =
    let one = datagram_field.again a 0 rest fits_a in
    let two = read_alone b fits_b in
    let both = sym one ∙ ap (λ (bytes : List ℕ). datagram_at (unread bytes)) same ∙ two in
    same_read a b (0 + length (packet_bytes a)) (0 + length (packet_bytes b)) rest both

-- ---- what is read can be written again

fits_content : (c : Content) → IsWholeContent c → FitsContent c
fits_content (content.Message m) w = fits_message m w
fits_content (content.Call number asked) w = fits_request asked w.1
fits_content (content.Reply number reply) w = fits_reply reply w.1

pub fits : (most : ℕ) (bytes : List ℕ) (d : DatagramValue) → AreBytes bytes → packet_within most bytes ≡ Ok d → FitsContent d.content
fits most bytes d width e = fits_content d.content (spelled most bytes d width e).0.content
