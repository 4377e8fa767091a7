-- Walks: they give an edge more to replicas that have few.
use Rattle.std.specs.Prelude.{ℕ, Bool, ◌==◌, ◌&&◌, ◌||◌, ◌-◌, ◌/◌, ◌%◌, not, nat_lt, if◌then◌else◌, List, length, Option, None, Some, slice_get}
use Rattle.std.specs.List.{filter}
use Rattle.pg_base.specs.declared.id.FileId.{FileId}
use Rattle.pg_edges.specs.declared.edge.Edge.{Edge}
use Rattle.pg_walkers.specs.Walkers.{sends_walks, walkers_of}
use Rattle.pg_pieces.specs.pg_msg.declared.message.Ends.{Ends}
use Rattle.pg_pieces.specs.pg_msg.declared.message.Message.TheVariants as message
use Rattle.pg_pieces.specs.pg_msg.declared.summary.Greeting.TheVariants as greeting
use Rattle.pg_pieces.specs.pg_msg.declared.work.Work.{Work}
use Rattle.pg_pieces.specs.pg_msg.Work.{with_tail}
use Rattle.pg_pieces.specs.pg_store.declared.store.Store.{Store}
use Rattle.pg_pieces.specs.pg_store.Births.{birth_of}
use Rattle.pg_pieces.specs.pg_store.Seen.{server_of}
use Rattle.pg_pieces.specs.pg_store.Store.{replica_of}
use Rattle.pg_pieces.specs.declared.accepting.EdgeUse.TheVariants as manner
use Rattle.pg_pieces.specs.Accepting.{accept, ends_to, is_accepted, link_peer}
use Rattle.pg_pieces.specs.Done.{Done, idle}
use Rattle.pg_pieces.specs.Posting.{post, sent_to}

-- the edges of a thing: none where it has no replica
abbrev pub edges_of : Store → FileId → List Edge
edges_of store file = (replica_of store file).edges

-- a walk has so many steps
abbrev pub most_hops : ℕ
most_hops = 3

-- it goes last in the event, along an edge of the replica here
abbrev pub walk_along : Store → FileId → ℕ → ℕ → ℕ → ℕ → Work → Option Edge → Work
walk_along store file origin birth hops word work None = work
walk_along store file origin birth hops word work (Some edge) = with_tail work
    (sent_to store edge.peer
    (message.Walk (ends_to store file edge.birth) origin birth hops word))

-- ---- the walk of a tick

-- a full replica, not of the root, that has one edge or two
abbrev pub has_few_edges : Store → FileId → Bool
has_few_edges store = sends_walks store.names store.replicas

-- all such, by id
abbrev pub with_few_edges : Store → List FileId
with_few_edges store = walkers_of store.names store.replicas

-- from a replica, by a random word: to one of its peers, and the rest of the word is the walk's
abbrev pub walk_from : Store → ℕ → Work → Option FileId → Work
walk_from store word work None = work
walk_from store word work (Some file) =
    walk_along store file (server_of store) (birth_of store file) most_hops
    (word / length (edges_of store file)) work
    (slice_get (edges_of store file) (word % length (edges_of store file)))

-- the word chooses one of these replicas
abbrev pub walk_of : Store → ℕ → List FileId → Work → Work
walk_of store word files work =
    walk_from store (word / length files) work (slice_get files (word % length files))

-- where the word is not 0, and there are such replicas
abbrev pub walk_of_tick : Store → ℕ → Work → Work
walk_of_tick store word work =
    if word == 0 then work else walk_of store word (with_few_edges store) work

-- ---- a walk comes

-- the edges to others than the sender and the origin
abbrev pub is_onward : ℕ → ℕ → Edge → Bool
is_onward from origin edge = not (edge.peer == from || edge.peer == origin)

abbrev pub onward : Store → FileId → ℕ → ℕ → List Edge
onward store file from origin = filter (is_onward from origin) (edges_of store file)

abbrev pub met_at_end : FileId → ℕ → ℕ → Done → Done
met_at_end file origin birth done = idle done.store
    (post done.store origin (message.Greet (ends_to done.store file birth) greeting.Meet) done.work)

-- it ends here: the origin is linked, and told
abbrev pub meet_origin : Store → FileId → ℕ → ℕ → Work → Done
meet_origin store file origin birth work =
    met_at_end file origin birth (link_peer store file origin birth work)

-- one of these edges is next, by the word
abbrev pub walk_on : Store → FileId → ℕ → ℕ → ℕ → ℕ → List Edge → Work → Work
walk_on store file origin birth hops word edges work =
    walk_along store file origin birth (hops - 1) (word / length edges) work
    (slice_get edges (word % length edges))

-- where steps are left, and there is an edge to go on
abbrev pub goes_on : ℕ → List Edge → Bool
goes_on hops edges = nat_lt 1 hops && nat_lt 0 (length edges)

abbrev pub walked : Store → Ends → ℕ → ℕ → ℕ → ℕ → List Edge → Work → Done
walked store ends origin birth hops word edges work =
    if goes_on hops edges
    then idle store (walk_on store ends.file origin birth hops word edges work)
    else meet_origin store ends.file origin birth work

-- it comes along an edge that is there. At its origin nothing comes of it
abbrev pub walk : Store → Ends → ℕ → ℕ → ℕ → ℕ → Work → Done
walk store ends origin birth hops word work =
    if is_accepted store work.from manner.Needs ends
    then (if origin == server_of store then idle store work
    else walked store ends origin birth hops word
    (onward store ends.file work.from origin) work)
    else accept store ends manner.Needs work
