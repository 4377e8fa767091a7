-- What seeks a gold replica: whose edges do not reach the golds that it sees.
use Rattle.std.specs.Prelude.{ℕ, Bool, ◌&&◌, not, if◌then◌else◌, List, Option, None, Some}
use Rattle.std.specs.List.{filter, find, list_any}
use Rattle.std.specs.Map.{keys_of}
use Rattle.pg_base.specs.declared.id.FileId.{FileId}
use Rattle.pg_base.specs.Id.{is_same_file}
use Rattle.pg_register.specs.declared.flag.Flag.{Flag}
use Rattle.pg_graph.specs.pg_intent.declared.intent.Intent.{Intent}
use Rattle.pg_graph.specs.pg_intent.declared.intent.Intent.TheVariants as intent
use Rattle.pg_graph.specs.pg_intent.declared.key.IntentKey.TheVariants as intent_key
use Rattle.pg_graph.specs.pg_intent.Intents.{aimed, stands}
use Rattle.pg_graph.specs.pg_msg.declared.work.Linked.{Linked}
use Rattle.pg_graph.specs.pg_msg.declared.work.Work.{Work}
use Rattle.pg_graph.specs.pg_store.declared.store.Store.{Store}
use Rattle.pg_graph.specs.pg_store.Beginning.{with_intents}
use Rattle.pg_graph.specs.pg_store.Seen.{removed_of, server_of}
pub use Rattle.pg_graph.specs.pg_store.Seekers.{is_apart, matches, seeks}
use Rattle.pg_graph.specs.pg_store.Servers.{next_target}
use Rattle.pg_graph.specs.pg_store.Store.{is_held}
use Rattle.pg_graph.specs.pg_pieces.Done.{Done, idle}
use Rattle.pg_graph.specs.pg_pieces.Golds.{flags_of, is_gold}
use Rattle.pg_graph.specs.pg_pieces.Intending.{begin_intent, each}
use Rattle.pg_graph.specs.Walks.{edges_of}

-- ---- what seeks

abbrev pub has_gold_apart : Store → FileId → Bool
has_gold_apart store file =
    list_any (is_apart (server_of store) (removed_of store) (edges_of store file))
    (flags_of store file)

abbrev pub has_gold_edge : Store → FileId → Bool
has_gold_edge store file =
    list_any (matches (removed_of store) (flags_of store file)) (edges_of store file)

-- a gold replica seeks where it sees a live gold of another server to which it has no edge, a
-- bronze one where it has no edge to a live gold that it sees
abbrev pub is_seeking : Store → FileId → Bool
is_seeking store file = is_held store file
    && (if is_gold store file then has_gold_apart store file else not (has_gold_edge store file))

-- all that seeks, by id
abbrev pub to_seek : Store → List FileId
to_seek store = filter (is_seeking store) (keys_of store.names.held)

-- ---- a Seek begins

abbrev pub target_or_next : Store → Option Flag → ℕ
target_or_next store None = next_target store (server_of store)
target_or_next store (Some flag) = flag.server

-- the least live other server whose flag is raised, and to which there is no edge, else the next
-- behind this server
abbrev pub seek_target : Store → FileId → ℕ
seek_target store file = target_or_next store
    (find (is_apart (server_of store) (removed_of store) (edges_of store file))
    (flags_of store file))

-- one of these edges is of the thing
abbrev pub was_linked : List Linked → FileId → Bool
was_linked edges file = list_any (λ (l : Linked). is_same_file l.file file) edges

abbrev pub aim_seek : Store → FileId → Store
aim_seek store file =
    with_intents store (aimed store.intents (intent_key.Seek file) (seek_target store file))

-- a Seek that stands asks anew where an edge of the thing was made in this event
abbrev pub seek_again : Store → FileId → Work → Store
seek_again store file work = if was_linked work.linked file then aim_seek store file else store

abbrev pub has_seek : Store → FileId → Bool
has_seek store file = stands store.intents (intent_key.Seek file)

-- of a thing that seeks
abbrev pub begin_seek : Store → FileId → Work → Done
begin_seek store file work =
    if has_seek store file then idle (seek_again store file work) work
    else begin_intent store (intent.Seek file (seek_target store file)) work

-- of each of these things, by id
abbrev pub begin_seeks : Store → List FileId → Work → Done
begin_seeks store files work = each begin_seek store files work
