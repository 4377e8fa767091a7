-- Cells are fields.
use Rattle.std.proofs.Common.{◌≡◌, ℕ, zero, suc, Bool, List, ◌++◌, refl, arith}
use Rattle.pg_base.specs.Version.{VersionValue}
use Rattle.pg_codec.specs.Laws.{Any, HasWidth, IsField}
use Rattle.pg_codec.specs.Reading.{number_at}
use Rattle.pg_codec.specs.Spelling.{flag_bytes, number_bytes}
use Rattle.pg_entries.specs.declared.cell.Cell.{Cell}
use Rattle.pg_entries.specs.declared.cell.Cell.TheVariants as cell
use Rattle.pg_entries.specs.declared.entry.Entry.{Entry}
use Rattle.pg_packet_write.specs.Fields.{cell_bytes, entry_bytes, gold_bytes, place_bytes, version_bytes}
use Rattle.pg_register.specs.declared.flag.Flag.{Flag}
use Rattle.pg_register.specs.declared.place.Place.{Place}
use Rattle.pg_packet_fields.specs.Cells.{IsWholeCell, cell_at, cell_of}
use Rattle.pg_packet_fields.specs.Faults.{of_packet}
use Rattle.pg_packet_fields.specs.Heads.{IsWholeVersion}
use Rattle.pg_packet_fields.specs.Places.{IsGold, IsWholeEntry, IsWholePlace}
use Rattle.pg_packet_fields.specs.declared.error.PacketError.TheVariants.{BadTag}
use Rattle.pg_packet_fields.proofs.HeadFields.{version_field}
use Rattle.pg_packet_fields.proofs.Joining.{chosen_is, never_is, then_is, view_is}
use Rattle.pg_packet_fields.proofs.PlaceFields.{entry_field, flag_is, gold_field, place_field}
use Rattle.pg_packet_fields.proofs.Plain.{byte_is}

abbrev cell_kind : Cell → ℕ
cell_kind (cell.Place place) = 1
cell_kind (cell.Flag flag) = 2
cell_kind (cell.Entry entry sure) = 3
cell_kind (cell.Version version) = 4

abbrev cell_behind : Cell → List ℕ
cell_behind (cell.Place place) = place_bytes place
cell_behind (cell.Flag flag) = gold_bytes flag
cell_behind (cell.Entry entry sure) = entry_bytes entry ++ flag_bytes sure
cell_behind (cell.Version version) = version_bytes version

abbrev IsCellOf : ℕ → Cell → Type 0
IsCellOf n c = IsWholeCell c × (cell_kind c ≡ n)

kind_small : (c : Cell) → HasWidth 1 (cell_kind c)
kind_small (cell.Place place) = omega arith
kind_small (cell.Flag flag) = omega arith
kind_small (cell.Entry entry sure) = omega arith
kind_small (cell.Version version) = omega arith

cell_spelled : (c : Cell) → cell_bytes c ≡ number_bytes 1 (cell_kind c) ++ cell_behind c
unfolding cell_bytes
cell_spelled (cell.Place place) = refl
cell_spelled (cell.Flag flag) = refl
cell_spelled (cell.Entry entry sure) = refl
cell_spelled (cell.Version version) = refl

none_below : (c : Cell) → cell_kind c ≡ 0 → ⊥
none_below (cell.Place place) e = omega arith
none_below (cell.Flag flag) e = omega arith
none_below (cell.Entry entry sure) e = omega arith
none_below (cell.Version version) e = omega arith

none_above : (n : ℕ) (c : Cell) → cell_kind c ≡ suc (suc (suc (suc (suc n)))) → ⊥
none_above n (cell.Place place) e = omega arith
none_above n (cell.Flag flag) e = omega arith
none_above n (cell.Entry entry sure) e = omega arith
none_above n (cell.Version version) e = omega arith

place_of : (c : Cell) → IsCellOf 1 c → (p : Place) × IsWholePlace p × (cell.Place p ≡ c)
place_of (cell.Place place) f = (place, f.0, refl)
place_of (cell.Flag flag) f = absurd (omega (arith, f.1))
place_of (cell.Entry entry sure) f = absurd (omega (arith, f.1))
place_of (cell.Version version) f = absurd (omega (arith, f.1))

gold_of : (c : Cell) → IsCellOf 2 c → (g : Flag) × IsGold 0 g × (cell.Flag g ≡ c)
gold_of (cell.Place place) f = absurd (omega (arith, f.1))
gold_of (cell.Flag flag) f = (flag, f.0, refl)
gold_of (cell.Entry entry sure) f = absurd (omega (arith, f.1))
gold_of (cell.Version version) f = absurd (omega (arith, f.1))

abbrev entry_view : Entry × Bool → Cell
entry_view x = cell.Entry x.0 x.1

entry_of : (c : Cell) → IsCellOf 3 c → (x : Entry × Bool) × (IsWholeEntry x.0 × Any x.1) × (entry_view x ≡ c)
entry_of (cell.Place place) f = absurd (omega (arith, f.1))
entry_of (cell.Flag flag) f = absurd (omega (arith, f.1))
entry_of (cell.Entry entry sure) f = ((entry, sure), (f.0, tt), refl)
entry_of (cell.Version version) f = absurd (omega (arith, f.1))

version_of : (c : Cell) → IsCellOf 4 c → (v : VersionValue) × IsWholeVersion v × (cell.Version v ≡ c)
version_of (cell.Place place) f = absurd (omega (arith, f.1))
version_of (cell.Flag flag) f = absurd (omega (arith, f.1))
version_of (cell.Entry entry sure) f = absurd (omega (arith, f.1))
version_of (cell.Version version) f = (version, f.0, refl)

behind_kind : (place n : ℕ) → IsField (IsCellOf n) cell_behind (cell_of place n)
behind_kind place zero = never_is (IsCellOf 0) cell_behind (BadTag place) (λ c f. none_below c f.1)
behind_kind place (suc zero) = view_is place_field cell.Place (IsCellOf 1) cell_behind (λ p f. ((f, refl), refl)) place_of
behind_kind place (suc (suc zero)) = view_is (gold_field 0) cell.Flag (IsCellOf 2) cell_behind (λ g f. ((f, refl), refl)) gold_of
behind_kind place (suc (suc (suc zero))) = view_is (then_is entry_field flag_is) entry_view (IsCellOf 3) cell_behind (λ x f. ((f.0, refl), refl)) entry_of
behind_kind place (suc (suc (suc (suc zero)))) = view_is version_field cell.Version (IsCellOf 4) cell_behind (λ v f. ((f, refl), refl)) version_of
behind_kind place (suc (suc (suc (suc (suc n))))) = never_is (IsCellOf (suc (suc (suc (suc (suc n)))))) cell_behind (BadTag place) (λ c f. none_above n c f.1)

pub cell_field : IsField IsWholeCell cell_bytes cell_at
unfolding cell_at
cell_field = chosen_is cell_kind (HasWidth 1) (number_bytes 1) (of_packet (number_at 1)) IsWholeCell cell_bytes cell_behind cell_of byte_is
    (λ c fits. kind_small c) cell_spelled behind_kind
