-- Which held things stand in a directory, which have a cell for a thing, and which things are calm:
-- no rule at the end of an event changes or looks for them.
use Rattle.std.specs.Prelude.{ℕ, ◌≡◌, Bool, true, false, ◌&&◌, ◌||◌, not, ◌⊎◌, nat_le, if◌then◌else◌, List, Option, None, Some, zero, suc}
use Rattle.std.specs.List.{filter, list_any}
use Rattle.std.specs.Map.{keys_of}
use Rattle.pg_base.specs.declared.id.FileId.{FileId}
use Rattle.pg_base.specs.Id.{is_same_file}
use Rattle.pg_base.specs.Stamp.{clock_end, is_before}
use Rattle.pg_register.specs.declared.place.Place.{Place}
use Rattle.pg_register.specs.Flag.{IsByServer, flag_of, is_live, number_or_0}
use Rattle.pg_register.specs.Place.{first_stamp, root, root_place}
use Rattle.pg_entries.specs.declared.entry.Entry.{Entry}
use Rattle.pg_entries.specs.Entry.{lists_any}
use Rattle.pg_index.specs.Ids.{is_one_of}
use Rattle.pg_names.specs.declared.attributes.Attributes.{Attributes}
use Rattle.pg_names.specs.declared.spots.Spot.{Spot}
use Rattle.pg_names.specs.Names.{InodeValue, NamesValue, cell_at, is_dir, is_held, known, own_at}

abbrev pub is_root : FileId → Bool
is_root file = is_same_file file root

-- ---- what stands in a directory

-- the spot of a thing other than the root is in this directory, and live or dead as is asked
abbrev pub is_spot : Bool → FileId → FileId → Spot → Bool
is_spot live dir file spot = not (is_root file)
    && ((if live then spot.live else not spot.live) && is_same_file spot.dir dir)

abbrev pub spot_of : Place → Spot
spot_of place = record { live = place.live; dir = place.parent }

abbrev pub is_in : Bool → FileId → FileId → Option Attributes → Bool
is_in live dir file None = false
is_in live dir file (Some own) = is_spot live dir file (spot_of own.place)

abbrev pub is_placed : NamesValue → Bool → FileId → FileId → Bool
is_placed names live dir file = is_in live dir file (own_at names file)

-- the held things other than the root whose live place is in this directory, by id
abbrev pub children : NamesValue → FileId → List FileId
children names dir = filter (is_placed names true dir) (keys_of names.held)

-- ---- what has a cell for a thing

abbrev pub is_cell : Option Entry → Bool
is_cell None = false
is_cell (Some cell) = true

abbrev pub is_holder : NamesValue → FileId → FileId → Bool
is_holder names child dir = is_cell (cell_at names dir child)

-- the held things that have a cell for this one, by id
abbrev pub holders : NamesValue → FileId → List FileId
holders names child = filter (is_holder names child) (keys_of names.held)

-- ---- calm things

abbrev pub cell_for : FileId → Attributes → Entry
cell_for file own = record { child = file; place = own.place; flags = own.flags }

-- any place but the blank one
abbrev pub is_update : Place → Bool
is_update place = place.live || is_before first_stamp place.stamp

-- the held parent in the place lacks a cell that it is to have
abbrev pub lacks_cell : NamesValue → FileId → Place → Bool
lacks_cell names file place = is_update place && (is_dir place.parent
    && (is_held names place.parent && not (is_cell (cell_at names place.parent file))))

-- the parent in the live place is not held
abbrev pub lacks_parent : NamesValue → Place → Bool
lacks_parent names place = place.live && not (is_held names place.parent)

-- the directory is dead, and lists a child
abbrev pub is_returning : FileId → InodeValue → Bool
is_returning dir x =
    (not x.own.place.live && is_before first_stamp x.own.place.stamp) && lists_any x.entries dir

-- what is asked of all things but the root
-- cell: the held parent in its place has a cell for it
-- parent: the parent in its live place is held
-- returning: it is no dead directory that lists a child
pub record IsSettled (names : NamesValue) (file : FileId) (x : InodeValue) : Type 0 where
  pub cell : lacks_cell names file x.own.place ≡ false
  pub parent : lacks_parent names x.own.place ≡ false
  pub returning : is_returning file x ≡ false

-- nothing is to be done for a held thing
-- cells: each cell for it has its own place and flags
-- full: it is full
-- gold: it sees a live gold replica
-- number: its server's own flag is not at the end of the clock
-- by_server: its flags are by server
-- settled: but for the root, it is settled
pub record IsCalm (names : NamesValue) (file : FileId) (x : InodeValue) : Type 0 where
  pub cells : (dir : FileId) (cell : Entry) → cell_at names dir file ≡ Some cell
      → cell ≡ cell_for file x.own
  pub full : x.full ≡ true
  pub gold : list_any (is_live names.removed) x.own.flags ≡ true
  pub number : nat_le clock_end (number_or_0 (flag_of x.own.flags names.server)) ≡ false
  pub by_server : IsByServer x.own.flags
  pub settled : is_root file ≡ false → IsSettled names file x

-- each held thing that is not among these is calm
abbrev pub AreCalm : NamesValue → List FileId → Type 0
AreCalm names ids = (file : FileId) (x : InodeValue) → known names file ≡ Some x
    → is_one_of file ids ≡ false → IsCalm names file x

-- ---- ways up

abbrev pub is_live_own : Option Attributes → Bool
is_live_own None = false
is_live_own (Some own) = own.place.live

-- a live held directory other than the root
abbrev pub is_inner : NamesValue → FileId → Bool
is_inner names dir = is_dir dir && (not (is_root dir) && is_live_own (own_at names dir))

abbrev pub place_of : Option Attributes → Place
place_of None = root_place
place_of (Some own) = own.place

-- the directory in which it stands; above any other there is the root
abbrev pub above : NamesValue → FileId → FileId
above names dir = if is_inner names dir then (place_of (own_at names dir)).parent else root

-- it is among these, or no live directory other than the root
abbrev pub IsStop : NamesValue → List FileId → FileId → Type 0
IsStop names ids dir = (is_one_of dir ids ≡ true) ⊎ (is_inner names dir ≡ false)

-- in at most so many steps up one comes to such a one
abbrev pub Comes : NamesValue → List FileId → ℕ → FileId → Type 0
Comes names ids zero dir = IsStop names ids dir
Comes names ids (suc n) dir = IsStop names ids dir ⊎ Comes names ids n (above names dir)

-- from each directory one comes to one of these, or out of the live directories: so where none of
-- these stands in a cycle, none does
abbrev pub AllCome : NamesValue → List FileId → Type 0
AllCome names ids = (dir : FileId) → (n : ℕ) × Comes names ids n dir
