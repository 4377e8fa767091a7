-- Passing: a thing and the directories that know of it come to the same place and flags.
use Rattle.std.specs.Prelude.{ℕ, Bool, true, false, ◌&&◌, ◌||◌, not, if◌then◌else◌, List, [], ◌∷◌, Option, None, Some}
use Rattle.pg_base.specs.declared.id.FileId.{FileId}
use Rattle.pg_base.specs.Id.{is_same_file}
use Rattle.pg_base.specs.Stamp.{is_before}
use Rattle.pg_register.specs.declared.flag.Flag.{Flag}
use Rattle.pg_register.specs.declared.place.Place.{Place}
use Rattle.pg_register.specs.Flag.{flag_of, is_removed, join_flags}
use Rattle.pg_register.specs.Place.{newer_place, first_stamp}
use Rattle.pg_edges.specs.declared.key.Key.TheVariants as key
use Rattle.pg_entries.specs.declared.entry.Entry.{Entry}
use Rattle.pg_msg.specs.declared.work.Work.{Work}
use Rattle.pg_msg.specs.Work.{with_touched}
use Rattle.pg_names.specs.declared.attributes.Attributes.{Attributes}
use Rattle.pg_names.specs.Names.{NamesValue, cell_at, is_dir, is_held, own_at, set_entry, set_own}
use Rattle.pg_names.specs.Same.{is_same_entry, is_same_flag, is_same_own, is_same_place}
use Rattle.pg_house.specs.Work.{State, place_touched, touched}

-- ---- the greatest of what is known of a thing

-- the newer place, and of each server the newer flag
abbrev pub joined : Attributes → Entry → Attributes
joined a b =
    record { place = newer_place a.place b.place; flags = join_flags a.flags b.flags }

abbrev pub joined_with : Attributes → Option Entry → Attributes
joined_with a None = a
joined_with a (Some b) = joined a b

-- of this and of the cells for the thing in these directories
abbrev pub greatest : NamesValue → FileId → Attributes → List FileId → Attributes
greatest names file top [] = top
greatest names file top (dir ∷ dirs) =
    greatest names file (joined_with top (cell_at names dir file)) dirs

-- any place but the blank one
abbrev pub is_update : Place → Bool
is_update place = place.live || is_before first_stamp place.stamp

abbrev pub is_in : FileId → Place → Bool
is_in dir place = is_same_file place.parent dir

-- the greatest place is a dead one of a directory, came by a cell, and its maker is not removed:
-- the directory itself does not take it
abbrev pub is_held_back : List ℕ → FileId → Attributes → Attributes → Bool
is_held_back removed file own top = is_dir file && (not top.place.live
    && (is_before own.place.stamp top.place.stamp
    && not (is_removed removed top.place.stamp.server)))

-- ---- the cells in directories

abbrev pub cell_for : FileId → Attributes → Entry
cell_for file own = record { child = file; place = own.place; flags = own.flags }

abbrev pub is_cell : Option Entry → Bool
is_cell None = false
is_cell (Some cell) = true

-- the directory is to have a cell for the thing: it has one, it is the parent in the greatest
-- place, or that is held back and it is the parent in the thing's own live place
abbrev pub wants : NamesValue → FileId → Attributes → Attributes → Bool → FileId → Bool
wants names file own top back dir = is_cell (cell_at names dir file)
    || ((is_update top.place && is_in dir top.place)
    || (back && (own.place.live && is_in dir own.place)))

abbrev pub differs : Option Entry → Entry → Bool
differs None cell = true
differs (Some held) cell = not (is_same_entry held cell)

-- and it is not the greatest yet
abbrev pub gets : NamesValue → FileId → Attributes → Attributes → Bool → FileId → Bool
gets names file own top back dir = wants names file own top back dir
    && differs (cell_at names dir file) (cell_for file top)

-- it is a held directory, and is to have a cell
abbrev pub is_taker : NamesValue → FileId → Attributes → Attributes → Bool → FileId → Bool
is_taker names file own top back dir =
    is_dir dir && (is_held names dir && wants names file own top back dir)

-- the directory takes the greatest, whole
abbrev pub given : State → FileId → Attributes → FileId → State
given st file top dir = record {
  names = set_entry st.names dir (cell_for file top);
  work = with_touched st.work dir (key.Entry file);
}

abbrev pub offered : State → FileId → Attributes → Attributes → Bool → FileId → State
offered st file own top back dir =
    if gets st.names file own top back dir then given st file top dir else st

-- and so each of these directories
abbrev pub spread : State → FileId → Attributes → Attributes → Bool → List FileId → State
spread st file own top back [] = st
spread st file own top back (dir ∷ dirs) =
    spread (offered st file own top back dir) file own top back dirs

-- ---- the thing itself

-- what it takes: all, or of a place that is held back the flags only
abbrev pub own_taken : Attributes → Attributes → Bool → Attributes
own_taken own top back =
    if back then record { place = own.place; flags = top.flags } else top

abbrev pub is_other_flag : Option Flag → Flag → Bool
is_other_flag None flag = true
is_other_flag (Some held) flag = not (is_same_flag held flag)

-- of these flags each that is not held so is touched, by server
abbrev pub flags_touched : Work → FileId → List Flag → List Flag → Work
flags_touched work file held [] = work
flags_touched work file held (flag ∷ flags) =
    flags_touched
    (touched work file (key.Flag flag.server) (is_other_flag (flag_of held flag.server) flag))
    file held flags

-- the place is touched, and the old one noted, where it changes; and so is each flag that does
abbrev pub own_touched : Work → FileId → Attributes → Attributes → Work
own_touched work file own taken =
    flags_touched
    (place_touched work file own.place (not (is_same_place own.place taken.place)))
    file own.flags taken.flags

abbrev pub took : State → FileId → Attributes → Attributes → State
took st file own taken = record {
  names = set_own st.names file taken;
  work = own_touched st.work file own taken;
}

-- it takes this where it is another
abbrev pub taking : State → FileId → Attributes → Attributes → State
taking st file own taken = if is_same_own own taken then st else took st file own taken

-- ---- one pass

abbrev pub passed : State → List FileId → FileId → Attributes → Attributes → Bool → State
passed st dirs file own top back =
    taking (spread st file own top back dirs) file own (own_taken own top back)

abbrev pub passed_to : State → List FileId → FileId → Attributes → Attributes → State
passed_to st dirs file own top =
    passed st dirs file own top (is_held_back st.names.removed file own top)

abbrev pub pass_own : State → List FileId → FileId → Option Attributes → State
pass_own st dirs file None = st
pass_own st dirs file (Some own) =
    passed_to st dirs file own (greatest st.names file own dirs)

-- passing for one thing, where these are the held directories
abbrev pub pass : State → List FileId → FileId → State
pass st dirs file = pass_own st dirs file (own_at st.names file)

-- and for each of these
abbrev pub pass_all : State → List FileId → List FileId → State
pass_all st dirs [] = st
pass_all st dirs (file ∷ files) = pass_all (pass st dirs file) dirs files
