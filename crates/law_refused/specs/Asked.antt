-- What stands of what was asked, and who is asked first, in their own words: members of what is
-- held, and no other that is later or less.
use Rattle.std.specs.Prelude.{ℕ, ◌≡◌, ◌⊎◌, ◌++◌, List, ◌∷◌, Contains, Some}
use Rattle.pg_run.specs.pg_base.declared.id.FileId.{FileId}
use Rattle.pg_run.specs.pg_base.Id.{IsBefore as IsLesser}
use Rattle.pg_run.specs.pg_base.Stamp.{IsBefore}
use Rattle.pg_run.specs.pg_entries.declared.entry.Entry.{Entry}
use Rattle.pg_run.specs.pg_intent.declared.intent.Intent.{Intent}
use Rattle.pg_run.specs.pg_intent.declared.intent.Intent.TheVariants as intent
use Rattle.pg_run.specs.pg_lookup.declared.paths.Way.{Way}
use Rattle.pg_run.specs.pg_lookup.declared.paths.Way.TheVariants as ways
use Rattle.pg_run.specs.pg_names.Names.{cell_at}
use Rattle.pg_run.specs.pg_register.declared.flag.Flag.{Flag}
use Rattle.pg_run.specs.pg_store.declared.store.Store.{Store}
use Rattle.pg_run.specs.pg_store.declared.wishes.Wish.{Wish}
use Rattle.law_turns.specs.Targets.{IsLeastOrNext, IsOtherGold}

-- ---- members of a list

-- none of them suits
abbrev pub HasNone : {A : Type 0} → (A → Type 0) → List A → Type 0
HasNone {A} Suits xs = (x : A) → Contains xs x → ¬ (Suits x)

-- it stands in the list and suits, and none before it does
pub record IsFirst {A : Type 0} (Suits : A → Type 0) (xs : List A) (x : A) : Type 0 where
  pub before : List A
  pub behind : List A
  pub parts : xs ≡ before ++ x ∷ behind
  pub suits : Suits x
  pub none : HasNone Suits before

-- ---- what stands

abbrev pub IsFillOf : FileId → Intent → Type 0
IsFillOf file i = (birth : ℕ) × (target : ℕ) × (i ≡ intent.Fill file birth target)

abbrev pub IsWishFor : FileId → FileId × Wish → Type 0
IsWishFor file e = e.0 ≡ file

-- the Fill of the thing among the intentions asks with this birth and this target; or there is no
-- Fill of it, and this is the wish for it among the wishes
abbrev pub IsStanding : Store → FileId → Wish → Type 0
IsStanding a file wish =
    IsFirst (IsFillOf file) a.intents (intent.Fill file wish.birth wish.target)
    ⊎ (HasNone (IsFillOf file) a.intents × IsFirst (IsWishFor file) a.wishes (file, wish))

-- there is neither a Fill of the thing nor a wish for it
pub record NothingStands (a : Store) (file : FileId) : Type 0 where
  pub unfilled : HasNone (IsFillOf file) a.intents
  pub unwished : HasNone (IsWishFor file) a.wishes

-- ---- who is asked first

-- a held directory has this cell for the thing. No directory has one for it with a later place, and
-- none with a lesser id one with as late a place
pub record IsLatestCell (a : Store) (file : FileId) (cell : Entry) : Type 0 where
  pub dir : FileId
  pub noted : cell_at a.names dir file ≡ Some cell
  pub latest : (other : FileId) (e : Entry) → cell_at a.names other file ≡ Some e
      → ¬ (IsBefore cell.place.stamp e.place.stamp)
  pub first : (other : FileId) (e : Entry) → cell_at a.names other file ≡ Some e
      → IsLesser other dir → IsBefore e.place.stamp cell.place.stamp

-- the cell by which a call came to the thing: by a path that of the last directory, by the thing's
-- id the latest. A call comes to the root by none
abbrev pub CameBy : Store → FileId → Way → Entry → Type 0
CameBy a file ways.Start cell = ⊥
CameBy a file (ways.Entry dir) cell = cell_at a.names dir file ≡ Some cell
CameBy a file ways.Id cell = IsLatestCell a file cell

-- in that cell a flag of the server stands that is raised, where the server is another one and not
-- removed
pub record IsToldGold (a : Store) (file : FileId) (way : Way) (server : ℕ) : Type 0 where
  pub cell : Entry
  pub came : CameBy a file way cell
  pub flag : Flag
  pub there : Contains cell.flags flag
  pub its : flag.server ≡ server
  pub gold : IsOtherGold a flag

-- the least of these servers, and where there is none the next behind this server
abbrev pub IsAskedFirst : Store → FileId → Way → ℕ → Type 0
IsAskedFirst a file way target = IsLeastOrNext a (IsToldGold a file way) target
