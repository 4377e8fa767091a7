-- What holds of a server where no house rule applies.
use Rattle.std.specs.Prelude.{ℕ, ◌≡◌, ◌≢◌, Bool, true, false, ◌||◌, ◌⊎◌, ◌≤◌, List, [], ◌∷◌, Some, suc}
use Rattle.std.specs.List.Sorted.{IsStrictlySortedBy}
use Rattle.std.specs.Map.{keys_of}
use Rattle.pg_base.specs.declared.id.FileId.{FileId}
use Rattle.pg_base.specs.Id.{file_cmp, is_same_file}
use Rattle.pg_register.specs.declared.place.Place.{Place}
use Rattle.pg_register.specs.Flag.{IsByServer, flag_of}
use Rattle.pg_register.specs.Place.{root}
use Rattle.pg_edges.specs.declared.key.Key.{Key}
use Rattle.pg_edges.specs.declared.key.Key.TheVariants as key
use Rattle.pg_entries.specs.declared.entry.Entry.{Entry}
use Rattle.pg_entries.specs.Entry.{is_listed}
use Rattle.pg_msg.specs.declared.update.Update.{Update}
use Rattle.pg_msg.specs.declared.update.Update.TheVariants as update
use Rattle.pg_msg.specs.declared.work.Slot.{Slot}
use Rattle.pg_msg.specs.declared.work.Touched.{Touched}
use Rattle.pg_msg.specs.declared.work.Work.{Work}
use Rattle.pg_names.specs.declared.attributes.Attributes.{Attributes}
use Rattle.pg_names.specs.Names.{InodeValue, NamesValue, cell_at, directories, is_dir, known, own_at, own_or_blank}
use Rattle.pg_house.specs.Work.{State, is_root}
use Rattle.pg_house.specs.Passing.{cell_for, greatest, is_cell, is_held_back, is_update}
use Rattle.pg_house.specs.Returning.{is_dead}
use Rattle.pg_house.specs.Cycles.{climb, is_inner}

-- ---- passing

-- every cell for the thing is the greatest, the held parent in the greatest place has a cell, and
-- the thing has the greatest itself, or the place is held back
pub record IsPassed (names : NamesValue) (dirs : List FileId) (file : FileId) (own : Attributes)
    : Type 0 where
  pub cells : (dir : FileId) (cell : Entry) → cell_at names dir file ≡ Some cell
      → cell ≡ cell_for file (greatest names file own dirs)
  pub parent : (c : Attributes) → is_update (greatest names file own dirs).place ≡ true
      → own_at names (greatest names file own dirs).place.parent ≡ Some c
      → is_dir (greatest names file own dirs).place.parent ≡ true
      → is_cell (cell_at names (greatest names file own dirs).place.parent file) ≡ true
  pub flags : own.flags ≡ (greatest names file own dirs).flags
  pub place : (own ≡ greatest names file own dirs)
      ⊎ (is_held_back names.removed file own (greatest names file own dirs) ≡ true)

-- the held parent in a thing's own live place has a cell for it
abbrev pub HasOwnParent : NamesValue → FileId → Attributes → Type 0
HasOwnParent names file own = (c : Attributes) → own.place.live ≡ true
    → own_at names own.place.parent ≡ Some c → is_dir own.place.parent ≡ true
    → is_cell (cell_at names own.place.parent file) ≡ true

abbrev pub Passing : NamesValue → Type 0
Passing names = (file : FileId) (own : Attributes) → own_at names file ≡ Some own
    → is_same_file file root ≡ false → IsPassed names (directories names) file own

abbrev pub OwnParent : NamesValue → Type 0
OwnParent names = (file : FileId) (own : Attributes) → own_at names file ≡ Some own
    → is_same_file file root ≡ false → HasOwnParent names file own

-- a thing has passed, where it is held
abbrev pub HasPassed : NamesValue → List FileId → FileId → Type 0
HasPassed names dirs file = (own : Attributes) → own_at names file ≡ Some own
    → (IsPassed names dirs file own) × (HasOwnParent names file own)

-- ---- return and cycles

-- no directory with a dead place lists a child
abbrev pub NoDeadLists : NamesValue → Type 0
NoDeadLists names = (dir : FileId) (own : Attributes) → own_at names dir ≡ Some own
    → is_dir dir ≡ true → is_dead dir own.place ≡ true → (child : FileId) (cell : Entry)
    → cell_at names dir child ≡ Some cell → is_listed dir cell ≡ false

-- from each live directory one comes out of the live directories, so none stands in itself
abbrev pub NoCycle : NamesValue → Type 0
NoCycle names = (dir : FileId) (n : ℕ) → is_inner names dir ≡ true → climb names (suc n) dir ≢ dir

-- ---- what the laws ask for

-- no stamp of a place is later than the greatest time
pub record IsLast (names : NamesValue) : Type 0 where
  pub own : (file : FileId) (own : Attributes) → own_at names file ≡ Some own
      → own.place.stamp.time ≤ names.last
  pub cells : (dir child : FileId) (cell : Entry) → cell_at names dir child ≡ Some cell
      → cell.place.stamp.time ≤ names.last

-- only directories have entries
abbrev pub IsOfDirs : NamesValue → Type 0
IsOfDirs names = (dir child : FileId) (cell : Entry)
    → cell_at names dir child ≡ Some cell → is_dir dir ≡ true

-- the flags of each thing are by server
abbrev pub AreByServer : NamesValue → Type 0
AreByServer names = (file : FileId) (own : Attributes)
    → own_at names file ≡ Some own → IsByServer own.flags

-- the entries of each directory are in order
abbrev pub AreOrdered : NamesValue → Type 0
AreOrdered names = (dir : FileId) (x : InodeValue)
    → known names dir ≡ Some x → IsStrictlySortedBy file_cmp (keys_of x.entries)

-- a thing is among these
abbrev pub is_among : FileId → List FileId → Bool
is_among file [] = false
is_among file (f ∷ fs) = is_same_file f file || is_among file fs

-- ---- what is held

abbrev pub IsHeld : NamesValue → FileId → Type 0
IsHeld names file = (own : Attributes) × (own_at names file ≡ Some own)

-- ---- what is told of a change

abbrev pub IsIn : Touched → List Touched → Type 0
IsIn t [] = ⊥
IsIn t (x ∷ xs) = (x ≡ t) ⊎ IsIn t xs

-- the key of a thing is among those that were touched
abbrev pub IsTouched : Work → FileId → Key → Type 0
IsTouched work file k = IsIn (record { file = file; key = k }) work.touched

-- every cell is as it was, or its key is touched: the cells in directories, the own places, and the
-- own flags of each server
pub record IsTold (before after : NamesValue) (work : Work) : Type 0 where
  pub cells : (dir child : FileId) → (cell_at after dir child ≡ cell_at before dir child)
      ⊎ IsTouched work dir (key.Entry child)
  pub places : (file : FileId)
      → ((own_or_blank after file).place ≡ (own_or_blank before file).place)
      ⊎ IsTouched work file key.Place
  pub flags : (file : FileId) (server : ℕ)
      → (flag_of (own_or_blank after file).flags server
      ≡ flag_of (own_or_blank before file).flags server)
      ⊎ IsTouched work file (key.Flag server)

-- ---- what is noted of places that were replaced

abbrev pub IsOneOf : {A : Type 0} → A → List A → Type 0
IsOneOf a [] = ⊥
IsOneOf a (x ∷ xs) = (x ≡ a) ⊎ IsOneOf a xs

-- it is noted that a live place of the child in the directory was replaced
abbrev pub IsLeft : Work → FileId → FileId → Type 0
IsLeft work dir child = IsOneOf {A = Slot} (record { dir = dir; child = child }) work.left

-- what was held with this place is held in the end, with the same place, or, where it was a live
-- one and the thing is not the root, it is noted that it was replaced
abbrev pub IsKeptOrLeft : State → FileId → Attributes → Type 0
IsKeptOrLeft after file own =
    (new : Attributes) × (own_at after.names file ≡ Some new)
    × (is_root file ≡ false → own.place.live ≡ true
    → (new.place ≡ own.place) ⊎ IsLeft after.work own.place.parent file)

-- the thing or a cell for it had this place at the start, or it was made
abbrev pub IsKnownPlace : NamesValue → List Update → FileId → Place → Type 0
IsKnownPlace before made file place =
    ((own : Attributes) × (own_at before file ≡ Some own) × (own.place ≡ place))
    ⊎ (((dir : FileId) × (cell : Entry)
    × (cell_at before dir file ≡ Some cell) × (cell.place ≡ place))
    ⊎ IsOneOf {A = Update} (update.Place file place) made)

-- a held thing other than the root had a live place in this directory, which was known at the start
-- or made since, and its place is among the keys touched
pub record IsReplaced (before after : State) (s : Slot) : Type 0 where
  pub place : Place
  pub known : IsKnownPlace before.names after.work.made s.child place
  pub live : place.live ≡ true
  pub parent : place.parent ≡ s.dir
  pub other : is_root s.child ≡ false
  pub held : IsHeld after.names s.child
  pub touched : IsTouched after.work s.child key.Place

-- just the live places that were replaced are noted
-- all: each that was there before
-- only: what is noted was noted before, or it was such a place
-- stays: what was noted before
pub record IsNoted (before after : State) : Type 0 where
  pub all : (file : FileId) (own : Attributes)
      → own_at before.names file ≡ Some own → IsKeptOrLeft after file own
  pub only : (s : Slot)
      → IsOneOf s after.work.left → IsOneOf s before.work.left ⊎ IsReplaced before after s
  pub stays : (s : Slot) → IsOneOf s before.work.left → IsOneOf s after.work.left
