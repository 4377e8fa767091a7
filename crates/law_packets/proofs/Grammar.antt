-- The faults of packets are those of the grammar.
use Rattle.std.proofs.Common.{◌≡◌, ℕ, zero, suc, ◌+◌, ◌<◌, ◌⊎◌, inl, inr, Bool, true, false, cond, ltb, eqb, List, [], ◌∷◌, ◌++◌, length, take, drop, Result, Ok, Err, refl, sym, ap, subst, ◌∙◌, append_assoc, arith}
use Rattle.std.proofs.lemmas.Bool.{cases_lt, ltb-true, eqb-false, le-ltb}
use Rattle.std.proofs.lemmas.List.{append-nil, take-append-drop, length-take-le}
use Rattle.pg_codec.specs.Unread.{Unread}
use Rattle.pg_codec.specs.Laws.{AreBytes}
use Rattle.pg_codec.specs.Reading.{unread}
use Rattle.pg_packet_fields.specs.declared.error.PacketError.{PacketError}
use Rattle.pg_packet_fields.specs.declared.error.PacketError.TheVariants.{OutOfMemory, Short, BadTag, TooLong, Tail}
use Rattle.pg_packet_read.specs.Whole.{IsWholeDatagram, cut_off, datagram_at, ended, packet_within, whole}
use Rattle.pg_packet_read.proofs.Contents.{datagram_field}
use Rattle.pg_packet_read.proofs.Spelled.{spelled}
use Rattle.pg_packet_write.specs.Datagrams.{packet_bytes}
use Rattle.pg_packet_write.specs.DatagramValue.{DatagramValue}
use Rattle.law_packets.specs.Faults.{AreFields, ArePacket, BeginsPacket, EndsAt, IsBadAt, IsOver, IsShortAt}
use Rattle.law_packets.specs.Lists.{Opens}
use Rattle.law_packets.proofs.EachKind.{datagram_sure}
use Rattle.law_packets.proofs.Opened.{SameBut}
use Rattle.law_packets.proofs.Sure.{Reached}
use Rattle.law_packets.proofs.Telling.{Starts, Stops, bind_err, bytes_front, err_is, failed, no_error, reads_field}

-- ---- what is reached

begins : (b : List ℕ) → Starts datagram_at b → BeginsPacket b
begins b s =
    let r = reads_field IsWholeDatagram packet_bytes datagram_at datagram_field (b ++ s.more) s.value s.width s.reads in
    record { value = s.value; more = s.more; fits = r.0; spelled = sym r.1 }

fields_case : (b before whole begun : List ℕ) → b ≡ before ++ begun → BeginsPacket (before ++ whole) → (whole ≡ begun) ⊎ Opens whole begun → AreFields b
fields_case b before whole begun parts packet (inl is) = inl (subst BeginsPacket (ap (λ (t : List ℕ). before ++ t) is ∙ sym parts) packet)
fields_case b before whole begun parts packet (inr opens) = inr (record { before = before; whole = whole; begun = begun; parts = parts; opens = opens; begins = packet })

fields : (b : List ℕ) → Reached SameBut datagram_at b → AreFields b
fields b r = let s = r.same in fields_case b s.0 s.1 s.2 s.3 (subst BeginsPacket s.4 (begins r.whole r.starts)) s.5

-- a packet that begins so is read
read_on : (d : DatagramValue) (before more : List ℕ) → IsWholeDatagram d → packet_bytes d ≡ before ++ more
    → (x : DatagramValue × Unread) × (datagram_at (record { place = 0; rest = before ++ more }) ≡ Ok x)
read_on d before more fits is =
    let end : Unread = record { place = 0 + length (packet_bytes d); rest = [] } in
    let text : before ++ more ≡ packet_bytes d ++ [] = sym is ∙ sym (append-nil (packet_bytes d)) in
    ((d, end), ap (λ (t : List ℕ). datagram_at (record { place = 0; rest = t })) text ∙ datagram_field.again d 0 [] fits)

-- ---- of bytes of any number

abbrev Fault : List ℕ → PacketError → Type 0
Fault bytes e = Stops (Reached SameBut datagram_at) datagram_at (unread bytes) e
    ⊎ ((x : DatagramValue × Unread) × (datagram_at (unread bytes) ≡ Ok x) × (ended x ≡ Err e))

whole_fault : (bytes : List ℕ) (e : PacketError) → AreBytes bytes → whole bytes ≡ Err e → Fault bytes e
unfolding whole
whole_fault bytes e width k =
    elim (bind_err (datagram_at (unread bytes)) ended e k) [
      | inl h ↦ inl (datagram_sure.told.stops (unread bytes) e width h)
      | inr h ↦ inr h
    ]

some_more : (n : ℕ) → (n ≡ 0 → ⊥) → 0 < n
some_more zero none = absurd (none refl)
some_more (suc n) none = omega arith

end_case : (t : Bool) (x : DatagramValue × Unread) (e : PacketError) → eqb (length x.1.rest) 0 ≡ t → cond t (Ok x.0) (failed DatagramValue (Tail x.1.place)) ≡ Err e
    → (e ≡ Tail x.1.place) × (0 < length x.1.rest)
end_case true x e test k = absurd (no_error x.0 e k)
end_case false x e test k = let some = eqb-false (length x.1.rest) 0 test in (sym (err_is DatagramValue (Tail x.1.place) e k), some_more (length x.1.rest) some)

end_fault : (x : DatagramValue × Unread) (e : PacketError) → ended x ≡ Err e → (e ≡ Tail x.1.place) × (0 < length x.1.rest)
end_fault x e k = end_case (eqb (length x.1.rest) 0) x e refl k

bad_of : (bytes : List ℕ) (place : ℕ) (before field rest : List ℕ) → bytes ≡ before ++ (field ++ rest) → place ≡ 0 + length before → 0 < length field
    → AreFields before → ((behind : List ℕ) (x : DatagramValue × Unread) → datagram_at (record { place = 0; rest = before ++ (field ++ behind) }) ≡ Ok x → ⊥) → IsBadAt bytes place
bad_of bytes place before field rest parts at some reached never = record {
  before = before;
  field = field;
  rest = rest;
  parts = parts;
  at = omega (arith, at);
  some = some;
  fields = reached;
  none = λ begun.
      let on = read_on begun.value before (field ++ begun.more) begun.fits (begun.spelled ∙ append_assoc before field begun.more) in
      never begun.more on.0 on.1;
}

tag_whole : (bytes : List ℕ) (place : ℕ) → Fault bytes (BadTag place) → IsBadAt bytes place
tag_whole bytes place (inl s) = bad_of bytes place s.before s.field s.rest s.parts s.told.0 s.told.1 (fields s.before s.reached) (λ behind x k. s.refused (s.field ++ behind) (behind, refl) x k)
tag_whole bytes place (inr h) = let e = (end_fault h.0 (BadTag place) h.2).0 in absurd cc

long_whole : (bytes : List ℕ) (place : ℕ) → Fault bytes (TooLong place) → IsBadAt bytes place
long_whole bytes place (inl s) = bad_of bytes place s.before s.field s.rest s.parts s.told.0 s.told.1 (fields s.before s.reached) (λ behind x k. s.refused (s.field ++ behind) (behind, refl) x k)
long_whole bytes place (inr h) = let e = (end_fault h.0 (TooLong place) h.2).0 in absurd cc

short_whole : (bytes : List ℕ) (place : ℕ) → Fault bytes (Short place) → IsShortAt bytes place
short_whole bytes place (inl s) = record {
  before = s.before;
  field = s.field;
  least = s.size;
  parts = s.parts ∙ ap (λ (t : List ℕ). s.before ++ t) (ap (λ (t : List ℕ). s.field ++ t) s.told.1.0 ∙ append-nil s.field);
  at = let at = s.told.0 in omega (arith, at);
  fields = fields s.before s.reached;
  fewer = s.told.1.1;
  each = λ d more fits is.
      let on = read_on d s.before more fits is in
      elim (cases_lt (length more) s.size) [
        | inl few ↦ absurd (s.refused more few on.0 on.1)
        | inr enough ↦ enough
      ];
}
short_whole bytes place (inr h) = let e = (end_fault h.0 (Short place) h.2).0 in absurd cc

same_place : (p q : ℕ) → Tail p ≡ Tail q → p ≡ q
same_place p q e = cc

tail_whole : (bytes : List ℕ) (place : ℕ) → AreBytes bytes → Fault bytes (Tail place) → EndsAt bytes place
tail_whole bytes place width (inl s) = absurd s.told
tail_whole bytes place width (inr h) =
    let end = end_fault h.0 (Tail place) h.2 in
    let t = datagram_field.takes (unread bytes) h.0 width h.1 in
    let at = same_place place h.0.1.place end.0 in
    let there = t.1.place in
    record { packet = h.0.0; rest = h.0.1.rest; whole = t.0; parts = t.1.parts; at = omega (arith, at, there); some = end.1 }

no_memory : (bytes : List ℕ) → Fault bytes OutOfMemory → ⊥
no_memory bytes (inl s) = s.told
no_memory bytes (inr h) = let e = (end_fault h.0 OutOfMemory h.2).0 in absurd cc

-- ---- of at most so many bytes

abbrev Cut : ℕ → List ℕ → PacketError → Type 0
Cut most bytes e = (most < length bytes) × (cut_off most (whole (take most bytes)) ≡ Err e)

within_case : (t : Bool) (most : ℕ) (bytes : List ℕ) (e : PacketError) → ltb most (length bytes) ≡ t
    → cond t (cut_off most (whole (take most bytes))) (whole bytes) ≡ Err e → (whole bytes ≡ Err e) ⊎ Cut most bytes e
within_case true most bytes e test k = inr (ltb-true most (length bytes) test, k)
within_case false most bytes e test k = inl k

within : (most : ℕ) (bytes : List ℕ) (e : PacketError) → packet_within most bytes ≡ Err e → (whole bytes ≡ Err e) ⊎ Cut most bytes e
unfolding packet_within
within most bytes e k = within_case (ltb most (length bytes)) most bytes e refl k

-- what is wrong with the first so many bytes
abbrev First : ℕ → Result DatagramValue PacketError → PacketError → Type 0
First most r (Short p) = ⊥
First most r (BadTag p) = r ≡ Err (BadTag p)
First most r (TooLong p) = (r ≡ Err (TooLong p)) ⊎ ((p ≡ most) × (((d : DatagramValue) × (r ≡ Ok d)) ⊎ ((n : ℕ) × (r ≡ Err (Short n)))))
First most r (Tail p) = r ≡ Err (Tail p)
First most r OutOfMemory = r ≡ Err OutOfMemory

first_of : (most : ℕ) (r : Result DatagramValue PacketError) (e : PacketError) → cut_off most r ≡ Err e → First most r e
first_of most (Ok d) e k = subst (λ (x : PacketError). First most (Ok d) x) (err_is DatagramValue (TooLong most) e k) (inr (refl, inl (d, refl)))
first_of most (Err OutOfMemory) e k = subst (λ (x : PacketError). First most (Err OutOfMemory) x) (err_is DatagramValue OutOfMemory e k) refl
first_of most (Err (Short n)) e k = subst (λ (x : PacketError). First most (Err (Short n)) x) (err_is DatagramValue (TooLong most) e k) (inr (refl, inr (n, refl)))
first_of most (Err (BadTag n)) e k = subst (λ (x : PacketError). First most (Err (BadTag n)) x) (err_is DatagramValue (BadTag n) e k) refl
first_of most (Err (TooLong n)) e k = subst (λ (x : PacketError). First most (Err (TooLong n)) x) (err_is DatagramValue (TooLong n) e k) (inl refl)
first_of most (Err (Tail n)) e k = subst (λ (x : PacketError). First most (Err (Tail n)) x) (err_is DatagramValue (Tail n) e k) refl

first_bytes : (most : ℕ) (bytes : List ℕ) → AreBytes bytes → AreBytes (take most bytes)
first_bytes most bytes width = bytes_front (take most bytes) (drop most bytes) (subst AreBytes (sym (take-append-drop most bytes)) width)

-- a fault of the first bytes is one of all
bad_more : (most : ℕ) (bytes : List ℕ) (place : ℕ) → IsBadAt (take most bytes) place → IsBadAt bytes place
bad_more most bytes place bad = record {
  before = bad.before;
  field = bad.field;
  rest = bad.rest ++ drop most bytes;
  parts = sym (take-append-drop most bytes) ∙ ap (λ (t : List ℕ). t ++ drop most bytes) bad.parts ∙ append_assoc bad.before (bad.field ++ bad.rest) (drop most bytes)
      ∙ ap (λ (t : List ℕ). bad.before ++ t) (append_assoc bad.field bad.rest (drop most bytes));
  at = bad.at;
  some = bad.some;
  fields = bad.fields;
  none = bad.none;
}

longer : (a b : List ℕ) → 0 < length a → 0 < length (a ++ b)
longer [] b some = absurd (omega (arith, some))
longer (x ∷ a) b some = omega arith

end_more : (most : ℕ) (bytes : List ℕ) (place : ℕ) → EndsAt (take most bytes) place → EndsAt bytes place
end_more most bytes place end = record {
  packet = end.packet;
  rest = end.rest ++ drop most bytes;
  whole = end.whole;
  parts = sym (take-append-drop most bytes) ∙ ap (λ (t : List ℕ). t ++ drop most bytes) end.parts ∙ append_assoc (packet_bytes end.packet) end.rest (drop most bytes);
  at = end.at;
  some = longer end.rest (drop most bytes) end.some;
}

-- the first bytes are a packet
packet_first : (most : ℕ) (bytes : List ℕ) (d : DatagramValue) → AreBytes bytes → most < length bytes → whole (take most bytes) ≡ Ok d → ArePacket (take most bytes)
unfolding packet_within
packet_first most bytes d width over k =
    let long : length (take most bytes) ≡ most = length-take-le most bytes (omega (arith, over)) in
    let test : ltb most (length (take most bytes)) ≡ false = le-ltb most (length (take most bytes)) (omega (arith, long)) in
    let read : packet_within most (take most bytes) ≡ Ok d = rw test k in
    let r = spelled most (take most bytes) d (first_bytes most bytes width) read in
    record { packet = d; whole = r.0; spelled = r.1 }

first_short : (most : ℕ) (bytes : List ℕ) (n : ℕ) → most < length bytes → IsShortAt (take most bytes) n → IsShortAt (take most bytes) most
first_short most bytes n over short =
    let long : length (take most bytes) ≡ most = length-take-le most bytes (omega (arith, over)) in
    record { before = short.before; field = short.field; least = short.least; parts = short.parts; at = sym long; fields = short.fields; fewer = short.fewer; each = short.each }

over_first : (most : ℕ) (bytes : List ℕ) (place : ℕ) → AreBytes bytes → most < length bytes → place ≡ most
    → ((d : DatagramValue) × (whole (take most bytes) ≡ Ok d)) ⊎ ((n : ℕ) × (whole (take most bytes) ≡ Err (Short n))) → IsOver most bytes place
over_first most bytes place width over at (inl d) = record { at = at; over = over; first = inl (packet_first most bytes d.0 width over d.1) }
over_first most bytes place width over at (inr n) =
    record { at = at; over = over; first = inr (first_short most bytes n.0 over (short_whole (take most bytes) n.0 (whole_fault (take most bytes) (Short n.0) (first_bytes most bytes width) n.1))) }

over_case : (most : ℕ) (bytes : List ℕ) (place : ℕ) → AreBytes bytes → most < length bytes
    → First most (whole (take most bytes)) (TooLong place) → IsBadAt bytes place ⊎ IsOver most bytes place
over_case most bytes place width over (inl k) =
    inl (bad_more most bytes place (long_whole (take most bytes) place (whole_fault (take most bytes) (TooLong place) (first_bytes most bytes width) k)))
over_case most bytes place width over (inr h) = inr (over_first most bytes place width over h.0 h.1)

-- ---- each fault

pub bad : (most : ℕ) (bytes : List ℕ) (place : ℕ) → AreBytes bytes → packet_within most bytes ≡ Err (BadTag place) → IsBadAt bytes place
bad most bytes place width k =
    elim (within most bytes (BadTag place) k) [
      | inl h ↦ tag_whole bytes place (whole_fault bytes (BadTag place) width h)
      | inr h ↦ bad_more most bytes place (tag_whole (take most bytes) place (whole_fault (take most bytes) (BadTag place) (first_bytes most bytes width) (first_of most (whole (take most bytes)) (BadTag place) h.1)))
    ]

pub long : (most : ℕ) (bytes : List ℕ) (place : ℕ) → AreBytes bytes → packet_within most bytes ≡ Err (TooLong place) → IsBadAt bytes place ⊎ IsOver most bytes place
long most bytes place width k =
    elim (within most bytes (TooLong place) k) [
      | inl h ↦ inl (long_whole bytes place (whole_fault bytes (TooLong place) width h))
      | inr h ↦ over_case most bytes place width h.0 (first_of most (whole (take most bytes)) (TooLong place) h.1)
    ]

pub short : (most : ℕ) (bytes : List ℕ) (place : ℕ) → AreBytes bytes → packet_within most bytes ≡ Err (Short place) → IsShortAt bytes place
short most bytes place width k =
    elim (within most bytes (Short place) k) [
      | inl h ↦ short_whole bytes place (whole_fault bytes (Short place) width h)
      | inr h ↦ absurd (first_of most (whole (take most bytes)) (Short place) h.1)
    ]

pub tail : (most : ℕ) (bytes : List ℕ) (place : ℕ) → AreBytes bytes → packet_within most bytes ≡ Err (Tail place) → EndsAt bytes place
tail most bytes place width k =
    elim (within most bytes (Tail place) k) [
      | inl h ↦ tail_whole bytes place width (whole_fault bytes (Tail place) width h)
      | inr h ↦ end_more most bytes place (tail_whole (take most bytes) place (first_bytes most bytes width) (whole_fault (take most bytes) (Tail place) (first_bytes most bytes width) (first_of most (whole (take most bytes)) (Tail place) h.1)))
    ]

pub memory : (most : ℕ) (bytes : List ℕ) → AreBytes bytes → packet_within most bytes ≡ Err OutOfMemory → ⊥
memory most bytes width k =
    elim (within most bytes OutOfMemory k) [
      | inl h ↦ no_memory bytes (whole_fault bytes OutOfMemory width h)
      | inr h ↦ no_memory (take most bytes) (whole_fault (take most bytes) OutOfMemory (first_bytes most bytes width) (first_of most (whole (take most bytes)) OutOfMemory h.1))
    ]
