-- Places that are held back: directories whose death is known by a cell, and that have not taken
-- it.
use Rattle.std.specs.Prelude.{Bool, false, ◌&&◌, not, ℕ, List, [], ◌∷◌, Option, None, Some}
use Rattle.std.specs.List.{filter}
use Rattle.pg_base.specs.declared.id.FileId.{FileId}
use Rattle.pg_base.specs.Stamp.{is_before}
use Rattle.pg_register.specs.declared.place.Place.{Place}
use Rattle.pg_register.specs.Flag.{is_removed}
use Rattle.pg_register.specs.Place.{newer_place}
use Rattle.pg_entries.specs.declared.entry.Entry.{Entry}
use Rattle.pg_names.specs.declared.attributes.Attributes.{Attributes}
use Rattle.pg_names.specs.Names.{NamesValue, cell_at, directories, is_dir, own_at}
use Rattle.pg_house.specs.Passing.{greatest, is_held_back}
use Rattle.pg_house.specs.Returning.{is_root}

-- the greatest place of a held thing is held back
abbrev pub is_back : NamesValue → List FileId → FileId → Option Attributes → Bool
is_back names dirs file None = false
is_back names dirs file (Some own) =
    is_held_back names.removed file own (greatest names file own dirs)

-- the same of a directory, but for the root, which never passes
abbrev pub is_dir_back : NamesValue → FileId → Bool
is_dir_back names dir =
    not (is_root dir) && is_back names (directories names) dir (own_at names dir)

-- the directories whose places are held back, by id
abbrev pub held_back : NamesValue → List FileId
held_back names = filter (is_dir_back names) (directories names)

-- ---- the place of the greatest is the latest place

abbrev pub later : Place → Option Entry → Place
later top None = top
later top (Some cell) = newer_place top cell.place

-- the latest of this place and those for the thing in these directories
abbrev pub latest : NamesValue → FileId → Place → List FileId → Place
latest names file top [] = top
latest names file top (dir ∷ dirs) = latest names file (later top (cell_at names dir file)) dirs

-- what `is_held_back` says of two places
abbrev pub waits : List ℕ → FileId → Place → Place → Bool
waits removed file own top = is_dir file && (not top.live
    && (is_before own.stamp top.stamp && not (is_removed removed top.stamp.server)))
