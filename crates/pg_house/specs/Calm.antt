-- Names to which no rule applies, and a flag that comes to one of their things.
use Rattle.std.specs.Prelude.{◌≡◌, false, ◌⊎◌, length, Option, None, Some}
use Rattle.std.specs.Map.{keys_of}
use Rattle.pg_base.specs.declared.id.FileId.{FileId}
use Rattle.pg_base.specs.Id.{is_same_file}
use Rattle.pg_register.specs.declared.flag.Flag.{Flag}
use Rattle.pg_register.specs.declared.place.Place.{Place}
use Rattle.pg_entries.specs.declared.entry.Entry.{Entry}
use Rattle.pg_names.specs.declared.attributes.Attributes.{Attributes}
use Rattle.pg_names.specs.Names.{NamesValue, cell_at, directories, is_full, join_flag, own_at}
use Rattle.pg_house.specs.Work.{State}
use Rattle.pg_house.specs.Cycles.{first_moving}
use Rattle.pg_house.specs.Facts.{AreByServer, AreOrdered, IsLast, IsOfDirs, NoDeadLists, OwnParent, Passing}

-- of_dirs, by_server, last, ordered: what the laws ask for
-- passing, own_parent: all things have passed
-- no_dead_lists: none comes back
-- none_moves: no cycle breaks
pub record IsCalm (names : NamesValue) : Type 0 where
  pub of_dirs : IsOfDirs names
  pub by_server : AreByServer names
  pub last : IsLast names
  pub ordered : AreOrdered names
  pub passing : Passing names
  pub own_parent : OwnParent names
  pub no_dead_lists : NoDeadLists names
  pub none_moves : first_moving names (length (directories names)) None (directories names) ≡ None

-- the place of a thing, where it is held
abbrev pub held_place : Option Attributes → Option Place
held_place None = None
held_place (Some own) = Some own.place

-- a held thing has the newer flag of its server
abbrev pub flagged : State → FileId → Flag → State
flagged st file flag = record { names = join_flag st.names file flag; work = st.work }

-- a cell is as it was, or it was there with the same place
abbrev pub IsSameOrPlaced : Option Entry → Option Entry → Type 0
IsSameOrPlaced before after = (after ≡ before) ⊎
    ((old : Entry) × (new : Entry) × (before ≡ Some old) × (after ≡ Some new)
    × (new.place ≡ old.place))

-- but for the flags in the cells for a thing all is as it was
-- own: the own places and flags
-- others: the cells for the other things
-- cells: those for the thing are just where they were, with the places that they had
-- full, keys: what is held, and is full
-- last, server, removed: what else is known
-- work: nothing but keys is noted
pub record DiffersByFlags (file : FileId) (before after : State) : Type 0 where
  pub own : (q : FileId) → own_at after.names q ≡ own_at before.names q
  pub others : (dir child : FileId) → is_same_file file child ≡ false
      → cell_at after.names dir child ≡ cell_at before.names dir child
  pub cells : (dir : FileId)
      → IsSameOrPlaced (cell_at before.names dir file) (cell_at after.names dir file)
  pub full : (q : FileId) → is_full after.names q ≡ is_full before.names q
  pub keys : keys_of after.names.held ≡ keys_of before.names.held
  pub last : after.names.last ≡ before.names.last
  pub server : after.names.server ≡ before.names.server
  pub removed : after.names.removed ≡ before.names.removed
  pub work : after.work ≡ record before.work { touched = after.work.touched }
