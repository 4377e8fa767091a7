-- Where a thing is listed: the directories that have a cell for it.
use Rattle.std.specs.Prelude.{Bool, false, if◌then◌else◌, List, Option, None, Some, is_some}
use Rattle.std.specs.List.{filter}
use Rattle.std.specs.Map.{keys_of}
use Rattle.pg_base.specs.declared.id.FileId.{FileId}
use Rattle.pg_entries.specs.declared.entry.Entry.{Entry}
use Rattle.pg_entries.specs.Entry.{is_listed}
use Rattle.pg_pieces.specs.pg_names.Names.{NamesValue, cell_at}
use Rattle.pg_checks.specs.Asking.{later, latest}

abbrev pub has_cell_for : NamesValue → FileId → FileId → Bool
has_cell_for names id dir = is_some (cell_at names dir id)

abbrev pub lists_by : FileId → Option Entry → Bool
lists_by dir None = false
lists_by dir (Some entry) = is_listed dir entry

abbrev pub lists_in : NamesValue → FileId → FileId → Bool
lists_in names id dir = lists_by dir (cell_at names dir id)

-- the held directories that have a cell for it, by id
abbrev pub dirs_of : NamesValue → FileId → List FileId
dirs_of names id = filter (has_cell_for names id) (keys_of names.held)

-- of a directory so far and this one, if it lists the thing, the one whose cell has the later place
abbrev pub later_listing : NamesValue → FileId → Option FileId → FileId → Option FileId
later_listing names id first dir =
    if lists_in names id dir then later names id first dir else first

-- of these directories the one whose cell has the latest place, of those that list the thing
abbrev pub last_listing : NamesValue → FileId → List FileId → Option FileId
last_listing names id dirs = latest names id None (filter (lists_in names id) dirs)
