-- The directory whose cell has the latest place has a cell.
use Rattle.std.proofs.Common.{◌≡◌, Bool, true, false, if◌then◌else◌, List, [], ◌∷◌, Option, None, Some, refl}
use Rattle.std.specs.Prelude.{is_some}
use Rattle.std.specs.List.{filter}
use Rattle.std.proofs.lemmas.Bool.{false≢true}
use Rattle.pg_base.specs.declared.id.FileId.{FileId}
use Rattle.pg_entries.specs.declared.entry.Entry.{Entry}
use Rattle.pg_cells.specs.pg_names.Names.{NamesValue, cell_at}
use Rattle.pg_checks.specs.Asking.{cell_in, is_later, later, latest}
use Rattle.pg_checks.specs.Listing.{has_cell_for, last_listing, lists_in}

-- what was found so far has a cell
abbrev Here : NamesValue → FileId → Option FileId → Type 0
Here names id first = (dir : FileId) → first ≡ Some dir → has_cell_for names id dir ≡ true

none_here : (names : NamesValue) (id dir : FileId) → None ≡ Some dir → has_cell_for names id dir ≡ true
none_here names id dir e = cc

same_here : (names : NamesValue) (id d dir : FileId) → has_cell_for names id d ≡ true → Some d ≡ Some dir → has_cell_for names id dir ≡ true
same_here names id d dir h e = cc

-- no cell is later than another
later_there : (first second : Option Entry) → is_later first second ≡ true → is_some second ≡ true
later_there first None e = absurd (false≢true e)
later_there first (Some entry) e = refl

chosen_here : (names : NamesValue) (id d : FileId) (first : Option FileId) (b : Bool) → (b ≡ true → has_cell_for names id d ≡ true) → Here names id first
    → Here names id (if b then Some d else first)
chosen_here names id d first true t h dir e = same_here names id d dir (t refl) e
chosen_here names id d first false t h dir e = h dir e

latest_here : (names : NamesValue) (id : FileId) (first : Option FileId) (dirs : List FileId) → Here names id first → Here names id (latest names id first dirs)
latest_here names id first [] h = h
latest_here names id first (d ∷ dirs) h =
    latest_here names id (later names id first d) dirs
    (chosen_here names id d first (is_later (cell_in names id first) (cell_at names d id)) (later_there (cell_in names id first) (cell_at names d id)) h)

pub listing_there : (names : NamesValue) (id dir : FileId) (dirs : List FileId) → last_listing names id dirs ≡ Some dir → has_cell_for names id dir ≡ true
listing_there names id dir dirs e = latest_here names id None (filter (lists_in names id) dirs) (none_here names id) dir e
