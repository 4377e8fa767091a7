-- How it is found that a thing is calm.
use Rattle.std.specs.Prelude.{ℕ, Bool, true, false, ◌&&◌, ◌||◌, not, nat_le, if◌then◌else◌, List, Option, None, Some, zero, suc}
use Rattle.std.specs.List.{list_any}
use Rattle.pg_base.specs.declared.id.FileId.{FileId}
use Rattle.pg_base.specs.Stamp.{clock_end}
use Rattle.pg_register.specs.Flag.{flag_of, is_live, number_or_0}
use Rattle.pg_entries.specs.declared.entry.Entry.{Entry}
use Rattle.pg_names.specs.declared.attributes.Attributes.{Attributes}
use Rattle.pg_names.specs.Names.{InodeValue, NamesValue, cell_at, known}
use Rattle.pg_names.specs.Same.{is_same_entry}
use Rattle.pg_names.specs.Calm.{above, cell_for, is_inner, is_returning, is_root, lacks_cell, lacks_parent}

-- a cell for the thing is not as the thing itself
abbrev pub is_apart_by : FileId → Attributes → Option Entry → Bool
is_apart_by file own None = false
is_apart_by file own (Some cell) = not (is_same_entry cell (cell_for file own))

abbrev pub is_apart_at : NamesValue → FileId → Attributes → FileId → Bool
is_apart_at names file own dir = is_apart_by file own (cell_at names dir file)

-- in fewer than so many steps up one comes out of the live directories
abbrev pub comes : NamesValue → ℕ → FileId → Bool
comes names zero dir = false
comes names (suc n) dir =
    if is_inner names dir then comes names n (above names dir) else true

abbrev pub is_settled : NamesValue → FileId → InodeValue → Bool
is_settled names file x = is_root file
    || (not (lacks_cell names file x.own.place)
    && (not (lacks_parent names x.own.place) && not (is_returning file x)))

abbrev pub is_sound : NamesValue → InodeValue → Bool
is_sound names x = x.full && (list_any (is_live names.removed) x.own.flags
    && not (nat_le clock_end (number_or_0 (flag_of x.own.flags names.server))))

-- what is held of a thing is calm, where these are said to have a cell for it
abbrev pub passes : NamesValue → List FileId → FileId → Option InodeValue → Bool
passes names dirs file None = true
passes names dirs file (Some x) = is_sound names x && (is_settled names file x
    && not (list_any (is_apart_at names file x.own) dirs))

-- and it comes out of the live directories
abbrev pub is_found_calm : NamesValue → List FileId → ℕ → FileId → Bool
is_found_calm names dirs count file =
    passes names dirs file (known names file) && comes names count file
