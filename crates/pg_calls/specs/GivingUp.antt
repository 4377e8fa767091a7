-- The server gives another one up.
use Rattle.std.specs.Prelude.{ℕ, Bool, ◌==◌, ◌&&◌, ◌+◌, ◌++◌, not, List, [], map, Option, None, Some, Result}
use Rattle.std.specs.List.{flat_map}
use Rattle.std.specs.Map.{keys_of}
use Rattle.pg_base.specs.declared.id.FileId.{FileId}
use Rattle.pg_cells.specs.pg_call.declared.refusal.Refusal.TheVariants as refusal
use Rattle.pg_cells.specs.pg_call.declared.reply.Reply.TheVariants as reply
use Rattle.pg_cells.specs.pg_msg.declared.work.Slot.{Slot}
use Rattle.pg_cells.specs.pg_msg.declared.work.Work.{Work}
use Rattle.pg_cells.specs.pg_names.Names.{InodeValue, NamesValue, directories, known}
use Rattle.pg_checks.specs.pg_lookup.declared.paths.LookupError.{LookupError}
use Rattle.pg_checks.specs.pg_lookup.Walk.{and_then}
use Rattle.pg_cells.specs.pg_store.declared.store.Store.{Store}
use Rattle.pg_cells.specs.pg_store.Seen.{view_of}
use Rattle.pg_cells.specs.pg_store.Servers.{is_live_other}
use Rattle.pg_cells.specs.pg_store.Views.{enter}
use Rattle.pg_cells.specs.pg_pieces.Done.{Done, idle}
use Rattle.pg_intentions.specs.Inviting.{invite_all}
use Rattle.pg_checks.specs.Answer.{Answer, answer, answered, unless}
use Rattle.pg_checks.specs.Checks.{in_time}

-- ---- the check

abbrev pub is_next_view : Store → ℕ → Bool
is_next_view store view = view == view_of store + 1

-- this is the next view, and the server is another live one
abbrev pub may_give_up : Store → ℕ → ℕ → Bool
may_give_up store view server = is_next_view store view && is_live_other store server

abbrev pub removal_at : Store → ℕ → ℕ → Result (Unit {0}) LookupError
removal_at store view server = and_then (in_time store (tt {0}))
    (λ found. unless (not (may_give_up store view server)) (refusal.WrongView (view_of store))
    (tt {0}))

-- ---- the view is entered

abbrev pub slots_to : FileId → List FileId → List Slot
slots_to dir children = map (λ child. record { dir = dir; child = child }) children

abbrev pub slots_in : FileId → Option InodeValue → List Slot
slots_in dir None = []
slots_in dir (Some x) = slots_to dir (keys_of x.entries)

-- the cells of a directory, by child
abbrev pub cells_of : NamesValue → FileId → List Slot
cells_of names dir = slots_in dir (known names dir)

-- no cell is sure any more: of each that lists what is not held a Confirm is to begin
abbrev pub doubt_all : Store → Work → Work
doubt_all store work = record work {
  unsure = work.unsure ++ flat_map (cells_of store.names) (directories store.names);
}

abbrev pub entered : Store → Work → Done
entered b work = idle b (invite_all b (doubt_all b work))

-- the server is removed in this view, which is entered
abbrev pub enter_view : Store → ℕ → Work → Done
enter_view store server work = entered (enter store server) work

abbrev pub giveup : Store → ℕ → ℕ → Work → Answer
giveup store view server work = answered store work (removal_at store view server)
    (λ found. answer (enter_view store server work) reply.Done)
