-- What a server holds before and after, where a replica may go.
use Rattle.std.specs.Prelude.{ℕ, ◌≡◌, ◌⊎◌, Some}
use Rattle.pg_base.specs.declared.id.FileId.{FileId}
use Rattle.pg_edges.specs.declared.key.Key.{Key}
use Rattle.pg_entries.specs.declared.cell.Cell.{Cell}
use Rattle.theory_flood.specs.Server.{Holds}
use Rattle.pg_cells.specs.pg_names.Names.{cell_at as entry_at, own_or_blank}
use Rattle.pg_cells.specs.pg_store.declared.store.Store.{Store}
use Rattle.pg_cells.specs.pg_store.Cells.{cell_at}
use Rattle.pg_cells.specs.pg_store.Together.{IsOver, birth_at}
use Rattle.theory_flood_pieces.specs.Names.{IsEntryKnownBy}
use Rattle.theory_flood_pieces.specs.UpTo.{AreFlagsUpTo, IsPlaceUpTo, IsUpTo}

-- of a thing's place and flags, of each of its entries, and of each of its cells, the heads of
-- contents too, as much is known or more
pub record GrowsAt (before after : Store) (file : FileId) : Type 0 where
  pub place : IsPlaceUpTo (own_or_blank before.names file).place
      (own_or_blank after.names file).place
  pub flags : AreFlagsUpTo (own_or_blank before.names file).flags
      (own_or_blank after.names file).flags
  pub entries : (child : FileId)
      → IsEntryKnownBy (entry_at before.names file child) (entry_at after.names file child)
  pub cells : (k : Key) (c : Cell)
      → cell_at before file k ≡ Some c → Holds IsUpTo (cell_at after file) c

-- each replica is held on, with its birth, and grew
abbrev pub GrowsOn : Store → Store → Type 0
GrowsOn before after = (file : FileId) (birth : ℕ) → birth_at before file ≡ Some birth
    → (birth_at after file ≡ Some birth) × GrowsAt before after file

-- a replica is held on so; or the birth is over
abbrev pub GrowsOrOver : Store → Store → FileId → ℕ → Type 0
GrowsOrOver before after file birth =
    ((birth_at after file ≡ Some birth) × GrowsAt before after file) ⊎ IsOver after file birth

-- so does each replica
abbrev pub Grows : Store → Store → Type 0
Grows before after = (file : FileId) (birth : ℕ) → birth_at before file ≡ Some birth
    → GrowsOrOver before after file birth
