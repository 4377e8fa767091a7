-- What a call is about, and why it is refused before anything is done.
use Rattle.std.specs.Prelude.{Bool, true, false, not, if◌then◌else◌, ℕ, List, [], ◌∷◌, Option, None, Some, Result, Ok}
use Rattle.pg_base.specs.declared.id.FileId.{FileId}
use Rattle.pg_path.specs.declared.row.Row.{Row}
use Rattle.pg_register.specs.Place.{root}
use Rattle.pg_entries.specs.Shown.{listing_of}
use Rattle.pg_pieces.specs.pg_names.Names.{InodeValue, NamesValue, is_dir, known}
use Rattle.pg_pieces.specs.pg_house.Returning.{is_root}
use Rattle.pg_lookup.specs.declared.paths.LookupError.{LookupError}
use Rattle.pg_lookup.specs.declared.paths.Way.TheVariants.{Id}
use Rattle.pg_lookup.specs.Chain.{is_above}
use Rattle.pg_lookup.specs.Walk.{and_then, is_dir_full, reach, reach_parent, reached, refused, shown_by}
use Rattle.pg_pieces.specs.pg_call.declared.call.Target.{Target}
use Rattle.pg_pieces.specs.pg_call.declared.call.Target.TheVariants as target
use Rattle.pg_pieces.specs.pg_call.declared.refusal.Refusal.TheVariants.{ClockEnd, IsDir, Root, Exists, DirFull, NotEmpty, Loop}
use Rattle.pg_pieces.specs.pg_store.declared.store.Store.{Store}
use Rattle.pg_pieces.specs.pg_store.Store.{is_before_clock_end}
use Rattle.pg_checks.specs.declared.checks.Move.{Move}
use Rattle.pg_checks.specs.declared.checks.NewName.{NewName}
use Rattle.pg_checks.specs.declared.paths.Paths.{Paths}
use Rattle.pg_checks.specs.Answer.{unless}
use Rattle.pg_checks.specs.Paths.{is_none, last_of, new_path_of, path_of, paths_of}

-- ---- the clock

-- behind the texts of paths the clock is looked at
abbrev pub in_time : {A : Type 0} → Store → A → Result A LookupError
in_time store found = unless (not (is_before_clock_end store)) ClockEnd found

-- ---- what a call is about

-- what the path leads to, held and full
abbrev pub thing_at : Store → Bool → List ℕ → Result FileId LookupError
thing_at store needs_dir text =
    and_then (and_then (path_of text) (in_time store)) (reach store.names needs_dir)

-- a file
abbrev pub file_at : Store → List ℕ → Result FileId LookupError
file_at store text =
    and_then (thing_at store false text) (λ file. unless (is_dir file) IsDir file)

-- a directory
abbrev pub dir_at : Store → List ℕ → Result FileId LookupError
dir_at store text = thing_at store true text

-- what an id names, held and full
abbrev pub id_at : Store → FileId → Result FileId LookupError
id_at store id =
    and_then (in_time store id) (λ file. reached store.names (record { file = file; way = Id }))

-- what a target names: a path, or an id
abbrev pub target_at : Store → Target → Result FileId LookupError
target_at store (target.Path text) = thing_at store false text
target_at store (target.Id id) = id_at store id

-- ---- new names

abbrev pub unless_shown : Option FileId → NewName → Result NewName LookupError
unless_shown None new = Ok new
unless_shown (Some other) new = refused (Exists other)

-- the name is not shown in its directory, which has room for a cell of the child
abbrev pub when_free : NamesValue → FileId → NewName → Result NewName LookupError
when_free names child new =
    and_then (unless_shown (shown_by names new.dir new.name) new)
    (λ found. unless (is_dir_full names found.dir child) DirFull found)

-- the last component of a path is the new name; the path of the root is shown by the root
abbrev pub new_name_in : NamesValue → FileId → List (List ℕ) → FileId → Result NewName LookupError
new_name_in names child parts dir =
    if is_none parts then refused (Exists root)
    else when_free names child (record { dir = dir; name = last_of parts })

abbrev pub new_name : Store → FileId → List ℕ → Result NewName LookupError
new_name store child text =
    and_then (and_then (new_path_of text) (in_time store))
    (λ parts. and_then (reach_parent store.names parts) (new_name_in store.names child parts))

-- ---- moves

-- the root does not move, and a directory not below itself
abbrev pub move_to : NamesValue → FileId → List (List ℕ) → FileId → Result Move LookupError
move_to names thing parts dir =
    and_then (unless (is_root thing) Root dir)
    (λ parent. and_then (new_name_in names thing parts parent)
    (λ new. unless (if is_dir thing then is_above names thing new.dir else false) Loop
    (record { thing = thing; to = new })))

-- what the first path leads to, and the last component of the second
abbrev pub move_along : Store → Paths → Result Move LookupError
move_along store paths =
    and_then (reach store.names false paths.from)
    (λ thing. and_then (reach_parent store.names paths.to) (move_to store.names thing paths.to))

abbrev pub move_of : Store → List ℕ → List ℕ → Result Move LookupError
move_of store from to =
    and_then (and_then (paths_of from to) (in_time store)) (move_along store)

-- ---- directories that go

abbrev pub first_row : List Row → Option FileId
first_row [] = None
first_row (row ∷ rows) = Some row.child

abbrev pub first_child : FileId → Option InodeValue → Option FileId
first_child dir None = None
first_child dir (Some x) = first_row (listing_of x.entries dir)

abbrev pub unless_child : FileId → Option FileId → Result FileId LookupError
unless_child dir None = Ok dir
unless_child dir (Some child) = refused (NotEmpty child)

-- any but the root, that shows no name: else it is refused with the first that it shows
abbrev pub empty_dir_at : Store → List ℕ → Result FileId LookupError
empty_dir_at store text =
    and_then (and_then (dir_at store text) (λ dir. unless (is_root dir) Root dir))
    (λ dir. unless_child dir (first_child dir (known store.names dir)))
