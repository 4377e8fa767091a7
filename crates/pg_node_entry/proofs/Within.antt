-- Faults are in the bytes or where they end.
use Rattle.std.proofs.Common.{◌≡◌, ℕ, zero, suc, ◌+◌, ◌≤◌, inl, inr, Bool, true, false, cond, eqb, ltb, List, [], ◌∷◌, ◌++◌, length, take, drop, Result, Ok, Err, refl, sym, ap, subst, arith}
use Rattle.std.specs.Prelude.{nat_lt, ◌<◌}
use Rattle.std.proofs.lemmas.Bool.{and_parts, ltb-false, ltb-true}
use Rattle.std.proofs.lemmas.List.{length-append, length-take-le, take-append-drop}
use Rattle.pg_codec.specs.Laws.{AreBytes, IsField}
use Rattle.pg_codec.specs.Reading.{Field, ◌>>=◌, checked, end_of, followed_by, number_at, seen_as, unread}
use Rattle.pg_codec.specs.Unread.{Unread}
use Rattle.pg_node_entry.specs.Reading.{arrival_of, begins_other, call_of, carried, entry_at, entry_of, fault_behind, fields_at, kind_at, kind_of, message_in, noted_call_at, place_of, placed, plain_of}
use Rattle.pg_node_entry.specs.declared.entry.NodeEntry.{NodeEntry}
use Rattle.pg_node_entry.specs.declared.entry.NodeEntry.TheVariants as entry
use Rattle.pg_node_entry.specs.declared.error.EntryError.{EntryError}
use Rattle.pg_node_entry.specs.declared.error.EntryError.TheVariants as fault
use Rattle.pg_node_entry.specs.declared.reading.EntryKind.{EntryKind}
use Rattle.pg_node_entry.specs.declared.reading.EntryKind.TheVariants as kind
use Rattle.pg_node_entry.proofs.Lengths.{packet_long}
use Rattle.pg_node_entry.proofs.Plain.{entry_field, kind_field}
use Rattle.pg_packet_fields.specs.Faults.{Fails, of_packet}
use Rattle.pg_packet_fields.specs.declared.error.PacketError.{PacketError}
use Rattle.pg_packet_fields.specs.declared.error.PacketError.TheVariants.{OutOfMemory, Short, BadTag, TooLong, Tail}
use Rattle.pg_packet_fields.proofs.Plain.{narrow_is, wide_is}
use Rattle.pg_packet_read.specs.Calls.{request_at}
use Rattle.pg_packet_read.specs.Whole.{cut_fault, cut_off, datagram_at, packet_of, packet_within, whole}
use Rattle.pg_packet_read.proofs.Contents.{datagram_field}
use Rattle.pg_packet_read.proofs.Spelled as packets
use Rattle.pg_packet_write.specs.DatagramValue.{DatagramValue}
use Rattle.pg_packet_write.specs.declared.datagram.Content.{Content}
use Rattle.pg_packet_write.specs.declared.datagram.Content.TheVariants as content
use Rattle.pg_packet_write.specs.declared.datagram.Request.{Request}
use Rattle.pg_packet_write.specs.declared.datagram.Request.TheVariants as request
use Rattle.law_packets.proofs.Atoms.{number_told}
use Rattle.law_packets.proofs.EachKind.{datagram_sure, request_sure}
use Rattle.law_packets.proofs.Telling.{IsTold, Told, bind_err, bound, bytes_front, err_is, no_error, pair}

-- ---- fields

-- the place of a fault is not behind the end of the bytes
abbrev Ends : {X : Type 0} → Field PacketError X → Type 0
Ends read = (from : Unread) (e : PacketError) → AreBytes from.rest → read from ≡ Err e → place_of e ≤ end_of from

told_place : (e : PacketError) (here end size : ℕ) (field rest : List ℕ) → here ≤ end → Told e here end field rest size → place_of e ≤ end
told_place OutOfMemory here end size field rest most told = omega arith
told_place (Short n) here end size field rest most told = let at = told.0 in omega (arith, at)
told_place (BadTag n) here end size field rest most told = let at = told.0 in omega (arith, at, most)
told_place (TooLong n) here end size field rest most told = let at = told.0 in omega (arith, at, most)
told_place (Tail n) here end size field rest most told = absurd told

ends_told : {X : Type 0} (P : List ℕ → Type 0) (read : Field PacketError X) → IsTold P read → Ends read
ends_told P read told from e width is =
    let s = told.stops from e width is in
    let long = ap length s.parts in
    let most : from.place + length s.before ≤ end_of from = omega (arith, long, length-append s.before (s.field ++ s.rest)) in
    told_place e (from.place + length s.before) (end_of from) s.size s.field s.rest most s.told

-- what was taken moves the place, and not the end
same_end : {X : Type 0} (F : X → Type 0) (s : X → List ℕ) (read : Field PacketError X) → IsField F s read
    → (from : Unread) (x : X × Unread) → AreBytes from.rest → read from ≡ Ok x → end_of x.1 ≡ end_of from
same_end F s read field from x width is =
    let taken = (field.takes from x width is).1 in
    let place = taken.place in
    let long = ap length taken.parts in
    omega (arith, place, long, length-append (s x.0) x.1.rest)

ends_bound : {A B : Type 0} (F : A → Type 0) (s : A → List ℕ) (first : Field PacketError A) (second : A → Field PacketError B)
    → IsField F s first → Ends first → ((a : A) → Ends (second a)) → Ends (bound first second)
ends_bound F s first second field one two from e width is =
    elim (bind_err (first from) (λ a. second a.0 a.1) e is) [
      | inl h ↦ one from e width h
      | inr h ↦
          let taken = (field.takes from h.0 width h.1).1 in
          subst (λ (n : ℕ). place_of e ≤ n) (same_end F s first field from h.0 width h.1) (two h.0.0 h.0.1 e taken.width h.2)
    ]

ends_seen : {A B : Type 0} (view : A → B) (read : Field PacketError A) → Ends read → Ends (seen_as view read)
ends_seen view read ends from e width is =
    elim (bind_err (read from) (λ a. Ok (view a.0, a.1)) e is) [
      | inl h ↦ ends from e width h
      | inr h ↦ absurd (no_error (view h.0.0, h.0.1) e h.2)
    ]

ends_checked : {A B : Type 0} (check : ℕ → A → Result B PacketError) (read : Field PacketError A)
    → ((place : ℕ) (a : A) (e : PacketError) → check place a ≡ Err e → place_of e ≤ place) → Ends read → Ends (checked check read)
ends_checked check read at ends from e width is =
    elim (bind_err (read from) (λ a. (check from.place a.0 >>= λ b. Ok (b, a.1))) e is) [
      | inl h ↦ ends from e width h
      | inr h ↦ elim (bind_err (check from.place h.0.0) (λ b. Ok (b, h.0.1)) e h.2) [
        | inl k ↦ let here = at from.place h.0.0 e k in omega (arith, here)
        | inr k ↦ absurd (no_error (k.0, h.0.1) e k.2)
      ]
    ]

ends_both : {A B : Type 0} (F : A → Type 0) (s : A → List ℕ) (first : Field PacketError A) (second : Field PacketError B)
    → IsField F s first → Ends first → Ends second → Ends (followed_by first (λ a. second))
ends_both F s first second field one two =
    ends_bound F s first (λ a. seen_as (pair a) second) field one (λ a. ends_seen (pair a) second two)

number_ends : (width : ℕ) → Ends (of_packet (number_at width))
number_ends width = ends_told _ (of_packet (number_at width)) (number_told width)

-- ---- entries that carry no packet

abbrev bad : (X : Type 0) → ℕ → Result X PacketError
bad X place = Err (BadTag place)

bad_place : (X : Type 0) (place : ℕ) (e : PacketError) → bad X place ≡ Err e → place_of e ≤ place
bad_place X place e is = subst (λ (f : PacketError). place_of f ≤ place) (err_is X (BadTag place) e is) (omega arith)

call_place : (place : ℕ) (a : Request) (e : PacketError) → call_of place a ≡ Err e → place_of e ≤ place
call_place place (request.Call c) e is = absurd (no_error c e is)
call_place place request.Tick e is = bad_place _ place e is

noted_call_ends : Ends noted_call_at
unfolding noted_call_at
noted_call_ends = ends_checked call_of request_at call_place (ends_told _ request_at request_sure.told)

kind_place : (place n : ℕ) (e : PacketError) → kind_of place n ≡ Err e → place_of e ≤ place
kind_place place zero e is = bad_place EntryKind place e is
kind_place place (suc zero) e is = absurd (no_error kind.Call e is)
kind_place place (suc (suc zero)) e is = absurd (no_error kind.Tick e is)
kind_place place (suc (suc (suc zero))) e is = bad_place EntryKind place e is
kind_place place (suc (suc (suc (suc zero)))) e is = absurd (no_error kind.Restart e is)
kind_place place (suc (suc (suc (suc (suc zero))))) e is = absurd (no_error kind.First e is)
kind_place place (suc (suc (suc (suc (suc (suc n)))))) e is = bad_place EntryKind place e is

kind_ends : Ends kind_at
unfolding kind_at
kind_ends = ends_checked kind_of (of_packet (number_at 1)) kind_place (number_ends 1)

fields_ends : (k : EntryKind) → Ends (fields_at k)
unfolding fields_at
fields_ends kind.Call = ends_seen _ (followed_by (of_packet (number_at 8)) (λ moment. noted_call_at)) (ends_both _ _ (of_packet (number_at 8)) noted_call_at wide_is (number_ends 8) noted_call_ends)
fields_ends kind.Tick = ends_seen _ (followed_by (of_packet (number_at 8)) (λ moment. of_packet (number_at 8))) (ends_both _ _ (of_packet (number_at 8)) (of_packet (number_at 8)) wide_is (number_ends 8) (number_ends 8))
fields_ends kind.Restart = λ from e width is. absurd (no_error (entry.Restart, from) e is)
fields_ends kind.First = ends_seen _ (followed_by (of_packet (number_at 4)) (λ server. of_packet (number_at 4))) (ends_both _ _ (of_packet (number_at 4)) (of_packet (number_at 4)) narrow_is (number_ends 4) (number_ends 4))

entry_ends : Ends entry_at
unfolding entry_at
entry_ends = ends_bound _ _ kind_at fields_at kind_field kind_ends fields_ends

-- ---- whole bytes

-- nothing stands behind it
abbrev alone : {X : Type 0} → X × Unread → Result X PacketError
alone x = cond (eqb (length x.1.rest) 0) (Ok x.0) (Err (Tail x.1.place))

alone_case : {X : Type 0} (t : Bool) (x : X × Unread) (e : PacketError) → cond t (Ok x.0) (Err (Tail x.1.place)) ≡ Err e → place_of e ≤ end_of x.1
alone_case true x e is = absurd (no_error x.0 e is)
alone_case {X = X} false x e is = subst (λ (f : PacketError). place_of f ≤ end_of x.1) (err_is X (Tail x.1.place) e is) (omega arith)

ends_alone : {X : Type 0} (F : X → Type 0) (s : X → List ℕ) (read : Field PacketError X) → IsField F s read → Ends read
    → (bytes : List ℕ) (e : PacketError) → AreBytes bytes → (read (unread bytes) >>= alone) ≡ Err e → place_of e ≤ length bytes
ends_alone F s read field ends bytes e width is =
    elim (bind_err (read (unread bytes)) alone e is) [
      | inl h ↦ let most = ends (unread bytes) e width h in omega (arith, most)
      | inr h ↦
          let most = alone_case (eqb (length h.0.1.rest) 0) h.0 e h.2 in
          let end = same_end F s read field (unread bytes) h.0 width h.1 in
          omega (arith, most, end)
    ]

plain_within : (bytes : List ℕ) (e : PacketError) → AreBytes bytes → plain_of bytes ≡ Err e → place_of e ≤ length bytes
unfolding plain_of
plain_within bytes e width is = ends_alone _ _ entry_at entry_field entry_ends bytes e width is

-- ---- packets

packet_whole : (bytes : List ℕ) (e : PacketError) → AreBytes bytes → whole bytes ≡ Err e → place_of e ≤ length bytes
unfolding whole
packet_whole bytes e width is = ends_alone _ _ datagram_at datagram_field (ends_told _ datagram_at datagram_sure.told) bytes e width is

cut_most : (most n : ℕ) (f : PacketError) → place_of f ≤ n → n ≤ most → place_of (cut_fault most f) ≤ most
cut_most most n OutOfMemory here few = omega arith
cut_most most n (Short place) here few = omega arith
cut_most most n (BadTag place) here few = omega (arith, here, few)
cut_most most n (TooLong place) here few = omega (arith, here, few)
cut_most most n (Tail place) here few = omega (arith, here, few)

cut_place : (most n : ℕ) (r : Result DatagramValue PacketError) (e : PacketError) → ((f : PacketError) → r ≡ Err f → place_of f ≤ n) → n ≤ most
    → cut_off most r ≡ Err e → place_of e ≤ most
cut_place most n (Ok d) e ends few is = subst (λ (f : PacketError). place_of f ≤ most) (err_is DatagramValue (TooLong most) e is) (omega arith)
cut_place most n (Err f) e ends few is =
    subst (λ (g : PacketError). place_of g ≤ most) (err_is DatagramValue (cut_fault most f) e is) (cut_most most n f (ends f refl) few)

front_width : (n : ℕ) (bytes : List ℕ) → AreBytes bytes → AreBytes (take n bytes)
front_width n bytes width = bytes_front (take n bytes) (drop n bytes) (subst AreBytes (sym (take-append-drop n bytes)) width)

-- a packet has at most so many bytes, and so has the place
packet_case : (t : Bool) (most : ℕ) (bytes : List ℕ) (e : PacketError) → AreBytes bytes → ltb most (length bytes) ≡ t
    → cond t (cut_off most (whole (take most bytes))) (whole bytes) ≡ Err e → (place_of e ≤ length bytes) × (place_of e ≤ most)
packet_case true most bytes e width test is =
    let more = ltb-true most (length bytes) test in
    let front : (f : PacketError) → whole (take most bytes) ≡ Err f → place_of f ≤ length (take most bytes) = λ f. packet_whole (take most bytes) f (front_width most bytes width) in
    let long = length-take-le most bytes (omega (arith, more)) in
    let here = cut_place most (length (take most bytes)) (whole (take most bytes)) e front (omega (arith, long)) is in
    (omega (arith, here, more), here)
packet_case false most bytes e width test is =
    let few = ltb-false most (length bytes) test in
    let here = packet_whole bytes e width is in
    (here, omega (arith, here, few))

packet_most : (most : ℕ) (bytes : List ℕ) (e : PacketError) → AreBytes bytes → packet_within most bytes ≡ Err e → (place_of e ≤ length bytes) × (place_of e ≤ most)
unfolding packet_within
packet_most most bytes e width is = packet_case (ltb most (length bytes)) most bytes e width refl is

packet_ends : (bytes : List ℕ) (e : PacketError) → AreBytes bytes → packet_of bytes ≡ Err e → (place_of e ≤ length bytes) × (place_of e ≤ 40000)
packet_ends bytes e width is = packet_most 40000 bytes e width is

-- what reading a packet failed with
pub failed_few : (bytes : List ℕ) (e : PacketError) → AreBytes bytes → Fails e (packet_of bytes) → place_of e ≤ 40000
failed_few bytes OutOfMemory width read = omega arith
failed_few bytes (Short place) width read = (packet_ends bytes (Short place) width read).1
failed_few bytes (BadTag place) width read = (packet_ends bytes (BadTag place) width read).1
failed_few bytes (TooLong place) width read = (packet_ends bytes (TooLong place) width read).1
failed_few bytes (Tail place) width read = (packet_ends bytes (Tail place) width read).1

-- ---- entries

abbrev failed : EntryError → Result NodeEntry EntryError
failed e = Err e

fault_is : (d e : EntryError) → failed d ≡ failed e → d ≡ e
fault_is d e same = cc

abbrev bad_at : ℕ → EntryError
bad_at place = fault.Bad place

place_is : (a b : ℕ) → bad_at a ≡ bad_at b → a ≡ b
place_is a b same = cc

behind_place : (count : ℕ) (f : PacketError) (place : ℕ) → fault_behind count f ≡ bad_at place → count + place_of f ≡ place
behind_place count OutOfMemory place is = absurd cc
behind_place count (Short n) place is = place_is (count + n) place is
behind_place count (BadTag n) place is = place_is (count + n) place is
behind_place count (TooLong n) place is = place_is (count + n) place is
behind_place count (Tail n) place is = place_is (count + n) place is

placed_place : (r : Result NodeEntry PacketError) (place : ℕ) → placed r ≡ failed (bad_at place) → (f : PacketError) × (r ≡ Err f) × (place_of f ≡ place)
placed_place (Ok e) place is = absurd cc
placed_place (Err f) place is = let at = behind_place 0 f place (fault_is (fault_behind 0 f) (bad_at place) is) in (f, refl, omega (arith, at))

four : (place : ℕ) → failed (bad_at 4) ≡ failed (bad_at place) → 4 ≡ place
four place is = place_is 4 place (fault_is (bad_at 4) (bad_at place) is)

message_place : (d : DatagramValue) (c : Content) (place : ℕ) → message_in d c ≡ failed (bad_at place) → 4 ≡ place
message_place d (content.Message m) place is = absurd cc
message_place d (content.Call number asked) place is = four place is
message_place d (content.Reply number reply) place is = four place is

carried_within : (bytes : List ℕ) (r : Result DatagramValue PacketError) (place : ℕ) → AreBytes bytes → packet_of bytes ≡ r → carried r ≡ failed (bad_at place)
    → place ≤ 1 + length bytes
carried_within bytes (Ok d) place width read is =
    let at = message_place d d.content place is in
    let long = ap length (packets.spelled 40000 bytes d width read).1 in
    omega (arith, at, long, packet_long d)
carried_within bytes (Err f) place width read is =
    let at = behind_place 1 f place (fault_is (fault_behind 1 f) (bad_at place) is) in
    let most = (packet_ends bytes f width read).0 in
    omega (arith, at, most)

other_long : (bytes : List ℕ) → begins_other bytes ≡ true → 3 < length bytes
unfolding begins_other
other_long bytes test = ltb-true 3 (length bytes) (and_parts (nat_lt 3 (length bytes)) _ test).0

arrival_case : (t : Bool) (bytes : List ℕ) (place : ℕ) → AreBytes bytes → begins_other bytes ≡ t
    → cond t (failed (bad_at 4)) (carried (packet_of bytes)) ≡ failed (bad_at place) → place ≤ 1 + length bytes
arrival_case true bytes place width test is =
    let at = four place is in
    let long = other_long bytes test in
    omega (arith, at, long)
arrival_case false bytes place width test is = carried_within bytes (packet_of bytes) place width refl is

arrival_within : (bytes : List ℕ) (place : ℕ) → AreBytes bytes → arrival_of bytes ≡ failed (bad_at place) → place ≤ 1 + length bytes
unfolding arrival_of
arrival_within bytes place width is = arrival_case (begins_other bytes) bytes place width refl is

entry_case : (t : Bool) (number : ℕ) (rest : List ℕ) (place : ℕ) → AreBytes (number ∷ rest)
    → cond t (arrival_of rest) (placed (plain_of (number ∷ rest))) ≡ failed (bad_at place) → place ≤ length (number ∷ rest)
entry_case true number rest place width is =
    let most = arrival_within rest place (λ i. width (suc i)) is in
    omega (arith, most)
entry_case false number rest place width is =
    let found = placed_place (plain_of (number ∷ rest)) place is in
    let at = found.2 in
    let most = plain_within (number ∷ rest) found.0 width found.1 in
    omega (arith, at, most)

pub within : (bytes : List ℕ) (place : ℕ) → AreBytes bytes → entry_of bytes ≡ failed (bad_at place) → place ≤ length bytes
unfolding entry_of
within [] place width is =
    let at = place_is 0 place (fault_is (bad_at 0) (bad_at place) is) in
    omega (arith, at)
within (number ∷ rest) place width is = entry_case (eqb number 3) number rest place width is
