-- Places of listed children that are to be confirmed.
use Rattle.std.specs.Prelude.{ℕ, Bool, ◌&&◌, not, false, if◌then◌else◌, Option, None, Some}
use Rattle.std.specs.Option.{unwrap_or}
use Rattle.pg_base.specs.declared.id.FileId.{FileId}
use Rattle.pg_register.specs.Flag.{first_other_gold}
use Rattle.pg_entries.specs.declared.entry.Entry.{Entry}
use Rattle.pg_entries.specs.Entry.{is_listed}
use Rattle.pg_graph.specs.pg_intent.declared.intent.Intent.{Intent}
use Rattle.pg_graph.specs.pg_intent.declared.intent.Intent.TheVariants as intent
use Rattle.pg_graph.specs.pg_msg.declared.work.Slot.{Slot}
use Rattle.pg_graph.specs.pg_msg.declared.work.Work.{Work}
use Rattle.pg_graph.specs.pg_names.Names.{NamesValue, cell_at, is_held}
use Rattle.pg_graph.specs.pg_store.declared.store.Store.{Store}
use Rattle.pg_graph.specs.pg_store.Seen.{removed_of, server_of}
use Rattle.pg_graph.specs.pg_store.Servers.{next_target}
use Rattle.pg_graph.specs.pg_pieces.Done.{Done, idle}
use Rattle.pg_intentions.specs.Intending.{begin_intent, each, in_order}

abbrev pub is_doubtful_cell : NamesValue → FileId → FileId → Option Entry → Bool
is_doubtful_cell names dir child None = false
is_doubtful_cell names dir child (Some entry) =
    is_listed dir entry && not (is_held names child)

abbrev pub is_doubtful_in : NamesValue → FileId → FileId → Bool
is_doubtful_in names dir child = is_doubtful_cell names dir child (cell_at names dir child)

-- the directory lists a child that is not held
abbrev pub is_doubtful : Store → FileId → FileId → Bool
is_doubtful store dir child = is_doubtful_in store.names dir child

abbrev pub holder_by : Store → ℕ → Option Entry → ℕ
holder_by store next None = next
holder_by store next (Some entry) =
    unwrap_or (first_other_gold (server_of store) (removed_of store) entry.flags) next

-- the server that is asked first: the least other live gold of the child, else the next behind this
-- server
abbrev pub holder : Store → FileId → FileId → ℕ
holder store dir child =
    holder_by store (next_target store (server_of store)) (cell_at store.names dir child)

abbrev pub confirm_of : Store → Slot → Intent
confirm_of store slot = intent.Confirm slot.dir slot.child (holder store slot.dir slot.child)

-- a Confirm begins where the directory lists the child and that is not held
abbrev pub begin_confirm : Store → Slot → Work → Done
begin_confirm store slot work =
    if is_doubtful store slot.dir slot.child then begin_intent store (confirm_of store slot) work
    else idle store work

-- of each cell whose place came from a server that is not sure of it, by directory and then by
-- child
abbrev pub begin_confirms : Store → Work → Done
begin_confirms store work = each begin_confirm store (in_order work.unsure) work
