-- What a server knows of names, and the updates that its replicas took: that it knows just these.
use Rattle.std.specs.Prelude.{◌≡◌, true, false, List, None, Some}
use Rattle.pg_run.specs.pg_base.declared.id.FileId.{FileId}
use Rattle.pg_run.specs.pg_content.Content.{Among}
use Rattle.pg_run.specs.pg_entries.declared.entry.Entry.{Entry}
use Rattle.pg_run.specs.pg_names.Names.{NamesValue, cell_at, own_or_blank}
use Rattle.pg_run.specs.pg_register.declared.flag.Flag.{Flag}
use Rattle.pg_run.specs.pg_register.declared.place.Place.{Place}
use Rattle.pg_run.specs.pg_house.Facts.{IsHeld}
use Rattle.pg_run.specs.Took.{Take, Taker, is_held}
use Rattle.pg_run.specs.Took.Take.{TookFlag, TookPlace}
use Rattle.pg_run.specs.Took.Taker.{InDir, Itself}
use Rattle.pg_run.specs.Passed.{has_cell}
use Rattle.law_passing.specs.Newest.{AreNewest, HaveOwnNumbers, HaveOwnStamps, IsLatest}

-- a replica took this place, or this flag, of a thing
abbrev pub HasPlace : List Take → Taker → FileId → Place → Type 0
HasPlace takes by file place = Among (TookPlace by file place) takes

abbrev pub HasFlag : List Take → Taker → FileId → Flag → Type 0
HasFlag takes by file flag = Among (TookFlag by file flag) takes

-- some replica did
abbrev pub KnowsPlace : List Take → FileId → Place → Type 0
KnowsPlace takes file place = (by : Taker) × HasPlace takes by file place

abbrev pub KnowsFlag : List Take → FileId → Flag → Type 0
KnowsFlag takes file flag = (by : Taker) × HasFlag takes by file flag

-- no stamp is of two places of a thing, and no number of two flags of a server
pub record AreApart (takes : List Take) : Type 0 where
  pub places : (file : FileId) → HaveOwnStamps file (KnowsPlace takes file)
  pub flags : (file : FileId) → HaveOwnNumbers (KnowsFlag takes file)

-- a directory's cell for a child is what its replica took of it
pub record IsCellOf (takes : List Take) (dir child : FileId) (cell : Entry) : Type 0 where
  pub child_is : cell.child ≡ child
  pub has : has_cell dir child takes ≡ true
  pub place : IsLatest child (HasPlace takes (InDir dir) child) cell.place
  pub flags : AreNewest (HasFlag takes (InDir dir) child) cell.flags

-- all that is held, the own places and flags, and the entries
pub record Tells (names : NamesValue) (takes : List Take) : Type 0 where
  pub held : (file : FileId) → is_held file takes ≡ true → IsHeld names file
  pub told : (file : FileId) → IsHeld names file → is_held file takes ≡ true
  pub place : (file : FileId)
      → IsLatest file (HasPlace takes Itself file) (own_or_blank names file).place
  pub flags : (file : FileId)
      → AreNewest (HasFlag takes Itself file) (own_or_blank names file).flags
  pub none : (dir child : FileId)
      → cell_at names dir child ≡ None → has_cell dir child takes ≡ false
  pub some : (dir child : FileId) (cell : Entry)
      → cell_at names dir child ≡ Some cell → IsCellOf takes dir child cell
