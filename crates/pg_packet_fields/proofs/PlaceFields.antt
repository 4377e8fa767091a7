-- Names, places, flags and entries are fields.
use Rattle.std.proofs.Common.{◌≡◌, ℕ, Bool, true, false, cond, List, ◌++◌, length, Ok, Err, refl, sym, ap, subst, arith}
use Rattle.std.specs.Prelude.{nat_le, nat_lt, ◌&&◌}
use Rattle.std.proofs.lemmas.Bool.{leb-true, le-leb, ltb-true, lt-ltb, and_parts}
use Rattle.pg_base.specs.declared.id.FileId.{FileId}
use Rattle.pg_base.specs.declared.stamp.Stamp.{Stamp}
use Rattle.pg_codec.specs.Laws.{Any, AreBytes, HasWidth, IsField}
use Rattle.pg_codec.specs.Reading.{checked, followed_by, bytes_at, flag_at, number_at}
use Rattle.pg_codec.specs.Spelling.{flag_bytes, number_bytes}
use Rattle.pg_codec.proofs.Binding.{both_are, checked_is, ok_is, seen_is}
use Rattle.pg_codec.proofs.Ids.{flag_field}
use Rattle.pg_codec.proofs.Numbers.{HasLength, bytes_field}
use Rattle.pg_entries.specs.declared.entry.Entry.{Entry}
use Rattle.pg_packet_write.specs.Fields.{counted, entry_bytes, gold_bytes, golds_bytes, place_bytes}
use Rattle.pg_packet_write.proofs.Lengths.{name_short}
use Rattle.pg_register.specs.declared.flag.Flag.{Flag}
use Rattle.pg_register.specs.declared.place.Place.{Place}
use Rattle.pg_packet_fields.specs.Faults.{of_packet}
use Rattle.pg_packet_fields.specs.Names.{counted_at, is_place_name, name_at, name_of}
use Rattle.pg_packet_fields.specs.Places.{AreGolds, IsAbove, IsGold, IsName, IsWholeEntry, IsWholePlace, above_of, entry_at, gold_at, golds_at, place_at, to_server}
use Rattle.pg_packet_fields.specs.declared.error.PacketError.{PacketError}
use Rattle.pg_packet_fields.specs.declared.error.PacketError.TheVariants.{BadTag}
use Rattle.pg_packet_fields.proofs.Joining.{packet_is, then_is, view_is}
use Rattle.pg_packet_fields.proofs.Many.{list_is}
use Rattle.pg_packet_fields.proofs.Names.{place_name_is, place_name_test}
use Rattle.pg_packet_fields.proofs.Plain.{byte_is, dir_field, file_is, narrow_is, stamp_is, wide_is}

pub flag_is : IsField Any flag_bytes (of_packet flag_at)
flag_is = packet_is Any flag_bytes flag_at flag_field

-- ---- names

-- bytes whose number takes so many bytes
pub record IsCounted (size : ℕ) (text : List ℕ) : Type 0 where
  pub short : HasWidth size (length text)
  pub width : AreBytes text

counted_to : (size n : ℕ) (text : List ℕ) → HasWidth size n → HasLength n text
    → IsCounted size text × (counted size text ≡ number_bytes size n ++ text)
unfolding counted
counted_to size n text fits long =
    (record { short = subst (λ (k : ℕ). HasWidth size k) (sym long.length) fits; width = long.width }, ap (λ (k : ℕ). number_bytes size k ++ text) long.length)

abbrev counted_view : ℕ × List ℕ → List ℕ
counted_view x = x.1

pub counted_field : (size : ℕ) → IsField (HasWidth size) (number_bytes size) (of_packet (number_at size))
    → IsField (IsCounted size) (counted size) (counted_at size)
counted_field size number = seen_is counted_view (λ (x : ℕ × List ℕ). HasWidth size x.0 × HasLength x.0 x.1) (λ x. number_bytes size x.0 ++ x.1)
    (followed_by (of_packet (number_at size)) (λ n. of_packet (bytes_at n))) (IsCounted size) (counted size)
    (λ x fits. counted_to size x.0 x.1 fits.0 fits.1)
    (λ text fits. ((length text, text), (fits.short, record { length = refl; width = fits.width }), refl))
    (both_are (HasWidth size) (number_bytes size) (of_packet (number_at size)) HasLength (λ n text. text) (λ n. of_packet (bytes_at n)) number
    (λ n _. packet_is (HasLength n) (λ text. text) (bytes_at n) (bytes_field n)))

name_case : (t : Bool) (place : ℕ) (a b : List ℕ) → AreBytes a → is_place_name a ≡ t → cond t (Ok a) (Err (BadTag place)) ≡ Ok b
    → IsName b × (counted 1 b ≡ counted 1 a)
name_case true place a b width test e =
    subst (λ (x : List ℕ). IsName x × (counted 1 x ≡ counted 1 a)) (ok_is PacketError a b e) (record { place = place_name_is a test; width = width }, refl)
name_case false place a b width test e = absurd cc

name_tested : (place : ℕ) (name : List ℕ) → IsName name → name_of place name ≡ Ok name
name_tested place name fits = let test : is_place_name name ≡ true = place_name_test name fits.place in rw test refl

pub name_field : IsField IsName (counted 1) name_at
unfolding name_at
name_field = checked_is name_of (IsCounted 1) (counted 1) (counted_at 1) IsName (counted 1)
    (λ place a b fits e. name_case (is_place_name a) place a b fits.width refl e)
    (λ name fits. (name, record { short = name_short name fits.place; width = fits.width }, λ place. name_tested place name fits))
    (counted_field 1 byte_is)

-- ---- places

abbrev place_view : Stamp × (FileId × (Bool × List ℕ)) → Place
place_view x = record { stamp = x.0; parent = x.1.0; live = x.1.1.0; name = x.1.1.1 }

pub place_field : IsField IsWholePlace place_bytes place_at
unfolding place_at place_bytes
place_field = view_is (then_is stamp_is (then_is dir_field (then_is flag_is name_field))) place_view IsWholePlace place_bytes
    (λ x fits. (record { stamp = fits.0; parent = fits.1.0; name = fits.1.1.1 }, refl))
    (λ p fits. ((p.stamp, (p.parent, (p.live, p.name))), (fits.stamp, (fits.parent, (tt, fits.name))), refl))

-- ---- flags

above_case : (t : Bool) (last place n s : ℕ) → (nat_lt last n && nat_le n 64) ≡ t → cond t (Ok n) (Err (BadTag place)) ≡ Ok s
    → IsAbove last s × (number_bytes 4 s ≡ number_bytes 4 n)
above_case true last place n s test e =
    let both = and_parts (nat_lt last n) (nat_le n 64) test in
    subst (λ (x : ℕ). IsAbove last x × (number_bytes 4 x ≡ number_bytes 4 n)) (ok_is PacketError n s e) (record { above = ltb-true last n both.0; most = leb-true n 64 both.1 }, refl)
above_case false last place n s test e = absurd cc

above_tested : (last place s : ℕ) → IsAbove last s → above_of last place s ≡ Ok s
above_tested last place s fits =
    let low : nat_lt last s ≡ true = lt-ltb last s fits.above in
    let high : nat_le s 64 ≡ true = le-leb s 64 fits.most in
    rw (low, high) refl

above_field : (last : ℕ) → IsField (IsAbove last) (number_bytes 4) (checked (above_of last) (of_packet (number_at 4)))
above_field last = checked_is (above_of last) (HasWidth 4) (number_bytes 4) (of_packet (number_at 4)) (IsAbove last) (number_bytes 4)
    (λ place n s fits e. above_case (nat_lt last n && nat_le n 64) last place n s refl e)
    (λ s fits. let most = fits.most in (s, omega (arith, most), λ place. above_tested last place s fits)) narrow_is

abbrev gold_view : ℕ × (ℕ × (ℕ × Bool)) → Flag
gold_view x = record { server = x.0; birth = x.1.0; number = x.1.1.0; raised = x.1.1.1 }

pub gold_field : (last : ℕ) → IsField (IsGold last) gold_bytes (gold_at last)
unfolding gold_at gold_bytes
gold_field last = view_is (then_is (above_field last) (then_is wide_is (then_is wide_is flag_is))) gold_view (IsGold last) gold_bytes
    (λ x fits. (record { server = fits.0; birth = fits.1.0; number = fits.1.1.0 }, refl))
    (λ f fits. ((f.server, (f.birth, (f.number, f.raised))), (fits.server, (fits.birth, (fits.number, tt))), refl))

pub golds_field : IsField AreGolds golds_bytes golds_at
unfolding golds_at golds_bytes
golds_field = list_is IsGold to_server gold_bytes gold_at gold_field 1 64 0 (omega arith) byte_is

-- ---- entries

abbrev entry_view : FileId × (Place × List Flag) → Entry
entry_view x = record { child = x.0; place = x.1.0; flags = x.1.1 }

pub entry_field : IsField IsWholeEntry entry_bytes entry_at
unfolding entry_at entry_bytes
entry_field = view_is (then_is file_is (then_is place_field golds_field)) entry_view IsWholeEntry entry_bytes
    (λ x fits. (record { child = fits.0; place = fits.1.0; flags = fits.1.1 }, refl))
    (λ e fits. ((e.child, (e.place, e.flags)), (fits.child, (fits.place, fits.flags)), refl))
