-- Fields that pass a test: servers and offsets in their order, and stamps in theirs.
use Rattle.std.proofs.Common.{◌≡◌, ℕ, Bool, true, false, cond, ltb, eqb, List, Option, Some, None, Ok, refl, ap, sym, subst, arith, inl, inr}
use Rattle.std.specs.Prelude.{nat_le, ◌&&◌, ◌||◌}
use Rattle.std.proofs.lemmas.Bool.{leb-true, le-leb, ltb-true, lt-ltb, eqb-true, eq-eqb, and_parts}
use Rattle.pg_base.specs.Stamp.{IsBefore, is_before}
use Rattle.pg_base.specs.declared.stamp.Stamp.{Stamp}
use Rattle.pg_codec.specs.Laws.{HasStampWidth, HasWidth, IsField}
use Rattle.pg_codec.specs.Reading.{Field, checked, number_at, stamp_at}
use Rattle.pg_codec.specs.Spelling.{number_bytes, stamp_bytes}
use Rattle.pg_codec.proofs.Binding.{checked_is, ok_is}
use Rattle.pg_packet_fields.specs.Faults.{of_packet}
use Rattle.pg_packet_fields.specs.Heads.{IsFrom, from_of}
use Rattle.pg_packet_fields.specs.Lists.{IsLater, is_later, later_at}
use Rattle.pg_packet_fields.specs.Patches.{IsOffset, Room, offset_of}
use Rattle.pg_packet_fields.specs.declared.error.PacketError.{PacketError}
use Rattle.pg_packet_fields.specs.declared.error.PacketError.TheVariants.{BadTag}
use Rattle.pg_packet_fields.proofs.Plain.{narrow_is, stamp_is, within}
use Rattle.law_packets.proofs.Checks.{bad}
use Rattle.law_packets.proofs.Telling.{no_error}

test_value : {X : Type 0} (t : Bool) (place : ℕ) (a b : X) → cond t (Ok a) (bad place a) ≡ Ok b → (t ≡ true) × (a ≡ b)
test_value true place a b k = (refl, ok_is PacketError a b k)
test_value false place a b k = absurd (no_error b (BadTag place) (sym k))

-- what passes a test, of a field with the same spelling
tested_is : {X : Type 0} (F G : X → Type 0) (s : X → List ℕ) (read : Field PacketError X) (test : X → Bool) → IsField F s read
    → ((x : X) → F x → test x ≡ true → G x) → ((x : X) → G x → F x × (test x ≡ true))
    → IsField G s (checked (λ place a. cond (test a) (Ok a) (bad place a)) read)
tested_is {X = X} F G s read test field to back = checked_is (λ place a. cond (test a) (Ok a) (bad place a)) F s read G s
    (λ place a b fits k. let v = test_value (test a) place a b k in subst (λ (y : X). G y × (s y ≡ s a)) v.1 (to a fits v.0, refl))
    (λ b fits. let f = back b fits in (b, f.0, λ place. ap (λ (t : Bool). cond t (Ok b) (bad place b)) f.1)) field

-- ---- servers, from the last one on

abbrev is_from : ℕ → ℕ → Bool
is_from last n = nat_le last n && (nat_le 1 n && nat_le n 64)

from_to : (last n : ℕ) → HasWidth 4 n → is_from last n ≡ true → IsFrom last n
from_to last n width test =
    let both = and_parts (nat_le last n) (nat_le 1 n && nat_le n 64) test in
    record { least = leb-true last n both.0; range = within n both.1 }

from_back : (last n : ℕ) → IsFrom last n → HasWidth 4 n × (is_from last n ≡ true)
from_back last n fits =
    let from : nat_le last n ≡ true = le-leb last n fits.least in
    let low : nat_le 1 n ≡ true = le-leb 1 n fits.range.least in
    let high : nat_le n 64 ≡ true = le-leb n 64 fits.range.most in
    let most = fits.range.most in
    (omega (arith, most), rw (from, low, high) refl)

pub from_field : (last : ℕ) → IsField (IsFrom last) (number_bytes 4) (checked (from_of last) (of_packet (number_at 4)))
from_field last = tested_is (HasWidth 4) (IsFrom last) (number_bytes 4) (of_packet (number_at 4)) (is_from last) narrow_is (from_to last) (from_back last)

-- ---- offsets, from where a part may begin

offset_to : (room : Room) (n : ℕ) → HasWidth 4 n → nat_le room.from n ≡ true → IsOffset room n
offset_to room n width test = record { from = leb-true room.from n test; width = width }

offset_back : (room : Room) (n : ℕ) → IsOffset room n → HasWidth 4 n × (nat_le room.from n ≡ true)
offset_back room n fits = (fits.width, le-leb room.from n fits.from)

pub offset_field : (room : Room) → IsField (IsOffset room) (number_bytes 4) (checked (offset_of room.from) (of_packet (number_at 4)))
offset_field room = tested_is (HasWidth 4) (IsOffset room) (number_bytes 4) (of_packet (number_at 4)) (λ n. nat_le room.from n) narrow_is (offset_to room) (offset_back room)

-- ---- stamps, behind the last one

before_case : (t u v : Bool) (a b : Stamp) → ltb a.time b.time ≡ t → eqb a.time b.time ≡ u → ltb a.server b.server ≡ v
    → (t || (u && v)) ≡ true → IsBefore a b
before_case true u v a b p q r k = inl (ltb-true _ _ p)
before_case false true true a b p q r k = inr (eqb-true _ _ q, ltb-true _ _ r)
before_case false true false a b p q r k = absurd cc
before_case false false v a b p q r k = absurd cc

either : (t : Bool) → (t || true) ≡ true
either true = refl
either false = refl

before_test : (a b : Stamp) → IsBefore a b → is_before a b ≡ true
before_test a b (inl lt) = let one : ltb a.time b.time ≡ true = lt-ltb _ _ lt in rw one refl
before_test a b (inr both) =
    let same : eqb a.time b.time ≡ true = eq-eqb _ _ both.0 in
    let less : ltb a.server b.server ≡ true = lt-ltb _ _ both.1 in
    rw (same, less) (either (ltb a.time b.time))

later_to : (last : Option Stamp) (s : Stamp) → HasStampWidth s → is_later last s ≡ true → IsLater last s
later_to None s width test = width
later_to (Some last) s width test = (before_case (ltb last.time s.time) (eqb last.time s.time) (ltb last.server s.server) last s refl refl refl test, width)

later_back : (last : Option Stamp) (s : Stamp) → IsLater last s → HasStampWidth s × (is_later last s ≡ true)
later_back None s fits = (fits, refl)
later_back (Some last) s fits = (fits.1, before_test last s fits.0)

pub later_field : (last : Option Stamp) → IsField (IsLater last) stamp_bytes (later_at last)
unfolding later_at
later_field last = tested_is HasStampWidth (IsLater last) stamp_bytes (of_packet stamp_at) (is_later last) stamp_is (later_to last) (later_back last)
