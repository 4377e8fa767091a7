-- Cells.
use Rattle.std.specs.Prelude.{ℕ, zero, suc, Err}
use Rattle.pg_codec.specs.Reading.{Field, ◌>>=◌, followed_by, seen_as, flag_at, number_at}
use Rattle.pg_entries.specs.declared.cell.Cell.{Cell}
use Rattle.pg_entries.specs.declared.cell.Cell.TheVariants as cell
use Rattle.pg_packet_fields.specs.Faults.{of_packet}
use Rattle.pg_packet_fields.specs.Heads.{IsWholeVersion, version_at}
use Rattle.pg_packet_fields.specs.Places.{IsGold, IsWholeEntry, IsWholePlace, entry_at, gold_at, place_at}
use Rattle.pg_packet_fields.specs.declared.error.PacketError.{PacketError}
use Rattle.pg_packet_fields.specs.declared.error.PacketError.TheVariants.{BadTag}

-- What stands behind the kind of a cell, which is at the place.
abbrev pub cell_of : ℕ → ℕ → Field PacketError Cell
cell_of place (suc zero) from = seen_as cell.Place place_at from
cell_of place (suc (suc zero)) from = seen_as cell.Flag (gold_at 0) from
cell_of place (suc (suc (suc zero))) from =
    seen_as (λ x. cell.Entry x.0 x.1) (followed_by entry_at (λ entry. of_packet flag_at)) from
cell_of place (suc (suc (suc (suc zero)))) from = seen_as cell.Version version_at from
cell_of place n from = Err (BadTag place)

unfoldable pub cell_at : Field PacketError Cell
cell_at from = of_packet (number_at 1) from >>= λ kind. cell_of from.place kind.0 kind.1

-- what can be read
abbrev pub IsWholeCell : Cell → Type 0
IsWholeCell (cell.Place place) = IsWholePlace place
IsWholeCell (cell.Flag flag) = IsGold 0 flag
IsWholeCell (cell.Entry entry sure) = IsWholeEntry entry
IsWholeCell (cell.Version version) = IsWholeVersion version
