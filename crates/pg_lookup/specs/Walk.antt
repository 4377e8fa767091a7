-- How a path is walked at a server, from the root on, one component after another.
use Rattle.std.specs.Prelude.{ℕ, Bool, ◌+◌, ◌-◌, ◌&&◌, ◌||◌, not, true, false, if◌then◌else◌, nat_le, List, [], ◌∷◌, length, take, Option, None, Some, Result, Ok, Err, is_some}
use Rattle.pg_base.specs.declared.id.FileId.{FileId}
use Rattle.pg_register.specs.Place.{root}
use Rattle.pg_entries.specs.Entry.{entry_of}
use Rattle.pg_entries.specs.Shown.{find_of}
use Rattle.pg_names.specs.Names.{InodeValue, NamesValue, is_dir, is_full, known}
use Rattle.pg_call.specs.declared.refusal.Refusal.{Refusal}
use Rattle.pg_call.specs.declared.refusal.Refusal.TheVariants.{NoName, NotDir}
use Rattle.pg_lookup.specs.declared.paths.Found.{Found}
use Rattle.pg_lookup.specs.declared.paths.LookupError.{LookupError}
use Rattle.pg_lookup.specs.declared.paths.LookupError.TheVariants.{NotYet, Refused}
use Rattle.pg_lookup.specs.declared.paths.Way.TheVariants.{Entry, Start}

-- one step behind another: it goes on with what the first found, or stops with it
abbrev pub and_then : {A B : Type 0} → Result A LookupError
    → (A → Result B LookupError) → Result B LookupError
and_then (Err why) next = Err why
and_then (Ok found) next = next found

-- it is refused
abbrev pub refused : {A : Type 0} → Refusal → Result A LookupError
refused why = Err (Refused why)

-- ---- what a call is about

-- what a call came to has to be held and full
abbrev pub reached : NamesValue → Found → Result FileId LookupError
reached names found = if is_full names found.file then Ok found.file else Err (NotYet found)

abbrev pub shown_in : FileId → List ℕ → Option InodeValue → Option FileId
shown_in dir name None = None
shown_in dir name (Some x) = find_of x.entries dir name

-- what shows the name in a directory, where that is held
abbrev pub shown_by : NamesValue → FileId → List ℕ → Option FileId
shown_by names dir name = shown_in dir name (known names dir)

-- ---- one component

-- the component with this number leads from a directory to what shows it there, which has to be a
-- directory where one is needed
abbrev pub led_to : FileId → ℕ → Bool → Option FileId → Result Found LookupError
led_to dir number needs_dir None = refused (NoName number)
led_to dir number needs_dir (Some child) =
    if needs_dir && not (is_dir child) then refused (NotDir number)
    else Ok (record { file = child; way = Entry dir })

-- the name is looked up in a directory
abbrev pub look_in : NamesValue → ℕ → Bool → List ℕ → FileId → Result Found LookupError
look_in names number needs_dir name dir =
    led_to dir number needs_dir (shown_by names dir name)

-- in what the walk came to so far, which has to be held and full
abbrev pub look_up : NamesValue → Found → ℕ → Bool → List ℕ → Result Found LookupError
look_up names found number needs_dir name =
    and_then (reached names found) (look_in names number needs_dir name)

-- ---- all components

abbrev pub has_more : List (List ℕ) → Bool
has_more [] = false
has_more (name ∷ names) = true

-- from here on: of these components the first has this number, each but the last needs a directory,
-- and the last where that is asked for
abbrev pub walk_from : NamesValue → Found → ℕ → Bool → List (List ℕ) → Result Found LookupError
walk_from names found number needs_dir [] = Ok found
walk_from names found number needs_dir (name ∷ more) =
    and_then (look_up names found number (has_more more || needs_dir) name)
    (λ next. walk_from names next (number + 1) needs_dir more)

-- every walk begins at the root
abbrev pub start : Found
start = record { file = root; way = Start }

abbrev pub walk : NamesValue → Bool → List (List ℕ) → Result Found LookupError
walk names needs_dir parts = walk_from names start 1 needs_dir parts

-- ---- whole paths

-- what the path leads to, which has to be held and full: that is asked behind all that a walk stops
-- for
abbrev pub reach : NamesValue → Bool → List (List ℕ) → Result FileId LookupError
reach names needs_dir parts = and_then (walk names needs_dir parts) (reached names)

-- the directory in which the last component is to be a new name
abbrev pub reach_parent : NamesValue → List (List ℕ) → Result FileId LookupError
reach_parent names parts = reach names true (take (length parts - 1) parts)

-- ---- room for new names

-- the most cells of a directory to which a call adds one
abbrev pub most_cells : ℕ
most_cells = 4096

abbrev pub no_room_in : FileId → Option InodeValue → Bool
no_room_in child None = false
no_room_in child (Some x) =
    nat_le most_cells (length x.entries) && not (is_some (entry_of x.entries child))

-- a directory has as many cells as that or more, and none for this child
abbrev pub is_dir_full : NamesValue → FileId → FileId → Bool
is_dir_full names dir child = no_room_in child (known names dir)
