-- What is known of names before and after, as the edges need it.
use Rattle.std.specs.Prelude.{ℕ, ◌≡◌, ◌⊎◌, List, Option, None, Some}
use Rattle.pg_base.specs.declared.id.FileId.{FileId}
use Rattle.pg_edges.specs.declared.key.Key.TheVariants as key
use Rattle.pg_entries.specs.declared.entry.Entry.{Entry}
use Rattle.pg_cells.specs.pg_house.Facts.{IsIn}
use Rattle.pg_cells.specs.pg_msg.declared.work.Touched.{Touched}
use Rattle.pg_cells.specs.pg_names.Names.{NamesValue, cell_at, own_or_blank}
use Rattle.pg_register.specs.Flag.{flag_of}
use Rattle.theory_flood_pieces.specs.UpTo.{AreFlagsUpTo, IsEntryUpTo, IsPlaceUpTo}

abbrev pub IsEntryKnownBy : Option Entry → Option Entry → Type 0
IsEntryKnownBy None b = Unit {0}
IsEntryKnownBy (Some a) None = ⊥
IsEntryKnownBy (Some a) (Some b) = IsEntryUpTo a b

-- every place, flag and entry is up to the one that is known then
pub record AreNamesUpTo (before after : NamesValue) : Type 0 where
  pub places : (file : FileId)
      → IsPlaceUpTo (own_or_blank before file).place (own_or_blank after file).place
  pub flags : (file : FileId)
      → AreFlagsUpTo (own_or_blank before file).flags (own_or_blank after file).flags
  pub entries : (dir child : FileId)
      → IsEntryKnownBy (cell_at before dir child) (cell_at after dir child)

-- every place, flag and entry is as it was, or its key is among these
pub record IsToldBy (ts : List Touched) (before after : NamesValue) : Type 0 where
  pub places : (file : FileId)
      → ((own_or_blank after file).place ≡ (own_or_blank before file).place)
      ⊎ IsIn (record { file = file; key = key.Place }) ts
  pub flags : (file : FileId) (server : ℕ)
      → (flag_of (own_or_blank after file).flags server
      ≡ flag_of (own_or_blank before file).flags server)
      ⊎ IsIn (record { file = file; key = key.Flag server }) ts
  pub entries : (dir child : FileId) → (cell_at after dir child ≡ cell_at before dir child)
      ⊎ IsIn (record { file = dir; key = key.Entry child }) ts
