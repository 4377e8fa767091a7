-- Cycles: of live directories that stand in each other, one moves to the root.
use Rattle.std.specs.Prelude.{ℕ, Bool, false, ◌+◌, ◌&&◌, not, if◌then◌else◌, List, [], ◌∷◌, length, Option, None, Some, zero, suc}
use Rattle.std.specs.Ordering.{is_lt}
use Rattle.pg_base.specs.declared.id.FileId.{FileId}
use Rattle.pg_base.specs.Id.{file_cmp}
use Rattle.pg_base.specs.Stamp.{is_before}
use Rattle.pg_register.specs.Place.{root, tilde_name}
use Rattle.pg_names.specs.declared.attributes.Attributes.{Attributes}
use Rattle.pg_names.specs.Names.{NamesValue, is_dir, own_at}
use Rattle.pg_house.specs.Work.{State}
use Rattle.pg_house.specs.Placing.{place_at, placed}
use Rattle.pg_house.specs.Returning.{is_root}

abbrev pub is_live_own : Option Attributes → Bool
is_live_own None = false
is_live_own (Some own) = own.place.live

-- a live held directory other than the root
abbrev pub is_inner : NamesValue → FileId → Bool
is_inner names dir =
    is_dir dir && (not (is_root dir) && is_live_own (own_at names dir))

-- the directory in which it stands; above any other there is the root
abbrev pub above : NamesValue → FileId → FileId
above names dir = if is_inner names dir then (place_at names dir).parent else root

-- so many steps up
abbrev pub climb : NamesValue → ℕ → FileId → FileId
climb names zero dir = dir
climb names (suc n) dir = climb names n (above names dir)

-- of two directories the one with the later place, and of one stamp the first
abbrev pub later : NamesValue → FileId → FileId → FileId
later names a b =
    if is_before (place_at names a).stamp (place_at names b).stamp then b else a

-- the one with the latest place, of this one and of so many from another on upwards
abbrev pub latest : NamesValue → ℕ → FileId → FileId → FileId
latest names zero best dir = best
latest names (suc n) best dir = latest names n (later names best dir) (above names dir)

-- where n directories are held: n steps up from a directory that never comes to the root stand in a
-- cycle of at most n members, so n further steps go round it whole
abbrev pub is_lost : NamesValue → ℕ → FileId → Bool
is_lost names n dir = is_inner names (climb names (n + n) dir)

-- the latest member of the cycle to which a directory leads
abbrev pub latest_member : NamesValue → ℕ → FileId → FileId
latest_member names n dir = latest names n (climb names n dir) (climb names n dir)

-- the lesser id
abbrev pub least : Option FileId → FileId → Option FileId
least None file = Some file
least (Some held) file = if is_lt (file_cmp file held) then Some file else Some held

abbrev pub least_moving : NamesValue → ℕ → Option FileId → FileId → Option FileId
least_moving names n first dir =
    if is_lost names n dir then least first (latest_member names n dir) else first

-- the latest member of each cycle, and of more than one the least
abbrev pub first_moving : NamesValue → ℕ → Option FileId → List FileId → Option FileId
first_moving names n first [] = first
first_moving names n first (dir ∷ dirs) =
    first_moving names n (least_moving names n first dir) dirs

-- it gets a new live place in the root, with a name made of its id
abbrev pub moved : ℕ → List FileId → State → Option FileId → State
moved moment dirs st None = st
moved moment dirs st (Some dir) = placed moment dirs st dir root (tilde_name dir)

-- one cycle is broken, if there is one
abbrev pub break_first : ℕ → List FileId → State → State
break_first moment dirs st =
    moved moment dirs st (first_moving st.names (length dirs) None dirs)
