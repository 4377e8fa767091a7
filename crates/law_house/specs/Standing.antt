-- Live directories that stand in each other, and which of them cycle breaking moves.
use Rattle.std.specs.Prelude.{ℕ, ◌≡◌, false, true, Option, None, Some, suc, zero}
use Rattle.std.specs.Ordering.{is_lt}
use Rattle.pg_run.specs.pg_base.declared.id.FileId.{FileId}
use Rattle.pg_run.specs.pg_base.Id.{file_cmp}
use Rattle.pg_run.specs.pg_base.Stamp.{is_before}
use Rattle.pg_run.specs.pg_house.Placing.{place_at}
use Rattle.pg_run.specs.pg_house.Work.{is_root}
use Rattle.pg_run.specs.pg_names.declared.attributes.Attributes.{Attributes}
use Rattle.pg_run.specs.pg_names.Names.{NamesValue, is_dir, own_at}

-- a live held directory other than the root, which stands in this one
pub record StandsIn (names : NamesValue) (dir parent : FileId) : Type 0 where
  pub own : Attributes
  pub held : own_at names dir ≡ Some own
  pub kind : is_dir dir ≡ true
  pub other : is_root dir ≡ false
  pub live : own.place.live ≡ true
  pub here : own.place.parent ≡ parent

-- so many steps lead up from one to the other: each directory on the way, but for the last, is a
-- live held one that stands in the next
abbrev pub LeadsTo : NamesValue → ℕ → FileId → FileId → Type 0
LeadsTo names zero dir top = dir ≡ top
LeadsTo names (suc n) dir top =
    (parent : FileId) × StandsIn names dir parent × LeadsTo names n parent top

-- a member of a cycle: one or more steps up lead back to it
abbrev pub IsInCycle : NamesValue → FileId → Type 0
IsInCycle names dir = (n : ℕ) × LeadsTo names (suc n) dir dir

-- a member of a cycle, none of which has a place with a later stamp
pub record IsLatestInCycle (names : NamesValue) (dir : FileId) : Type 0 where
  pub cycle : IsInCycle names dir
  pub latest : (n : ℕ) (member : FileId) → LeadsTo names n dir member
      → is_before (place_at names dir).stamp (place_at names member).stamp ≡ false

-- of all such members of all cycles none is less, by id
pub record IsLeastLatest (names : NamesValue) (dir : FileId) : Type 0 where
  pub latest : IsLatestInCycle names dir
  pub least : (other : FileId) → IsLatestInCycle names other → is_lt (file_cmp other dir) ≡ false

-- it is this one that is to move; where it is none, there is no cycle
abbrev pub IsWhoMoves : NamesValue → Option FileId → Type 0
IsWhoMoves names None = (dir : FileId) → IsInCycle names dir → ⊥
IsWhoMoves names (Some dir) = IsLeastLatest names dir
