-- What a client asked for that is not here yet is fetched.
use Rattle.std.specs.Prelude.{ℕ, ◌==◌, Bool, true, false, if◌then◌else◌, List, [], ◌∷◌, Option, None, Some}
use Rattle.std.specs.Map.{keys_of}
use Rattle.std.specs.Option.{option_or, unwrap_or}
use Rattle.pg_base.specs.declared.id.FileId.{FileId}
use Rattle.pg_base.specs.Stamp.{is_before}
use Rattle.pg_register.specs.Flag.{first_other_gold}
use Rattle.pg_entries.specs.declared.entry.Entry.{Entry}
use Rattle.pg_pieces.specs.pg_intent.declared.intent.Intent.{Intent}
use Rattle.pg_pieces.specs.pg_intent.declared.intent.Intent.TheVariants as intent
use Rattle.pg_pieces.specs.pg_msg.declared.message.Message.TheVariants as message
use Rattle.pg_pieces.specs.pg_msg.declared.work.Work.{Work}
use Rattle.pg_pieces.specs.pg_names.Names.{NamesValue, cell_at}
use Rattle.pg_lookup.specs.declared.paths.Found.{Found}
use Rattle.pg_lookup.specs.declared.paths.Way.{Way}
use Rattle.pg_lookup.specs.declared.paths.Way.TheVariants as way
use Rattle.pg_pieces.specs.pg_store.declared.store.Store.{Store}
use Rattle.pg_pieces.specs.pg_store.declared.wishes.Wish.{Wish}
use Rattle.pg_pieces.specs.pg_store.Births.{draw_birth, fill_at, wish_at, with_birth, with_wish}
use Rattle.pg_pieces.specs.pg_store.Seen.{server_of}
use Rattle.pg_pieces.specs.pg_store.Servers.{next_target}
use Rattle.pg_pieces.specs.Done.{Done, idle}
use Rattle.pg_pieces.specs.Posting.{post}

-- ---- the entry that tells of whom to ask

-- the cell for a thing in a directory, if there is a directory
abbrev pub cell_in : NamesValue → FileId → Option FileId → Option Entry
cell_in names file None = None
cell_in names file (Some dir) = cell_at names dir file

-- the second has a later place, or is the first at all
abbrev pub is_later : Option Entry → Option Entry → Bool
is_later first None = false
is_later None (Some second) = true
is_later (Some first) (Some second) = is_before first.place.stamp second.place.stamp

abbrev pub later : NamesValue → FileId → Option FileId → FileId → Option FileId
later names file first dir =
    if is_later (cell_in names file first) (cell_at names dir file) then Some dir else first

-- of this directory and these others the one whose cell for the thing has the latest place, and of
-- one stamp the first
abbrev pub latest : NamesValue → FileId → Option FileId → List FileId → Option FileId
latest names file first [] = first
latest names file first (dir ∷ dirs) = latest names file (later names file first dir) dirs

-- the directory by whose cell a call came to a thing: for an id the one whose cell has the latest
-- place
abbrev pub dir_by : NamesValue → FileId → Way → Option FileId
dir_by names file way.Start = None
dir_by names file (way.Entry dir) = Some dir
dir_by names file way.Id = latest names file None (keys_of names.held)

-- ---- who is asked

-- the least other live gold that a cell tells of
abbrev pub gold_of : NamesValue → Option Entry → Option ℕ
gold_of names None = None
gold_of names (Some cell) = first_other_gold names.server names.removed cell.flags

-- by the cell by which the call came to the thing; where it tells of none, the server behind this
-- one
abbrev pub holder : Store → Found → ℕ
holder store found = unwrap_or
    (gold_of store.names
    (cell_in store.names found.file (dir_by store.names found.file found.way)))
    (next_target store (server_of store))

-- ---- with which birth

-- what an intention asks for, if it is a Fill
abbrev pub wish_by : Option Intent → Option Wish
wish_by (Some (intent.Fill file birth target)) =
    Some (record { birth = birth; target = target })
wish_by _ = None

-- a replica is asked for already: by its Fill, or by the wish for it
abbrev pub standing : Store → FileId → Option Wish
standing store file = option_or (wish_by (fill_at store file)) (wish_at store file)

-- the fetch of a wish, which is sent if it has a target
abbrev pub fetch : Store → FileId → Wish → Work → Work
fetch store file wish work =
    if wish.target == 0 then work
    else post store wish.target (message.Fetch file wish.birth) work

-- a wish with a fresh birth
abbrev pub fresh_wish : Store → ℕ → Wish
fresh_wish store target = record { birth = draw_birth store; target = target }

-- it is kept and sent, if there is a server to be asked; else nothing is done
abbrev pub ask_first : Store → FileId → ℕ → Work → Done
ask_first store file target work =
    if target == 0 then idle store work
    else idle (with_wish (with_birth store) file (fresh_wish store target))
    (fetch store file (fresh_wish store target) work)

abbrev pub ask_by : Store → Found → Option Wish → Work → Done
ask_by store found None work = ask_first store found.file (holder store found) work
ask_by store found (Some wish) work = idle store (fetch store found.file wish work)

-- a replica of what a call came to is asked for: as its Fill asks, else as the wish for it, else by
-- a new wish
abbrev pub ask_for : Store → Found → Work → Done
ask_for store found work = ask_by store found (standing store found.file) work
