-- Who sees few gold replicas asks one more to be gold, where a server was removed.
use Rattle.std.specs.Prelude.{ℕ, Bool, ◌&&◌, ◌==◌, not, nat_lt, false, if◌then◌else◌, List, [], ◌∷◌, Option, None, Some}
use Rattle.std.specs.List.{find}
use Rattle.std.specs.Map.{keys_of}
use Rattle.pg_base.specs.declared.id.FileId.{FileId}
use Rattle.pg_edges.specs.declared.edge.Edge.{Edge}
use Rattle.pg_register.specs.Flag.{first_gold}
use Rattle.pg_graph.specs.pg_msg.declared.message.Message.TheVariants as message
use Rattle.pg_graph.specs.pg_msg.declared.work.Work.{Work}
use Rattle.pg_graph.specs.pg_msg.Work.{with_tail}
use Rattle.pg_graph.specs.pg_names.declared.attributes.Attributes.{Attributes}
use Rattle.pg_graph.specs.pg_names.Names.{own_at}
use Rattle.pg_graph.specs.pg_store.declared.store.Store.{Store}
use Rattle.pg_graph.specs.pg_store.Seen.{removed_of, server_of}
use Rattle.pg_graph.specs.pg_store.Store.{is_full}
use Rattle.pg_graph.specs.pg_pieces.Accepting.{ends_to}
use Rattle.pg_graph.specs.pg_pieces.Golds.{flags_of, is_gold}
use Rattle.pg_graph.specs.pg_pieces.Posting.{sent_to}
use Rattle.pg_graph.specs.Walks.{edges_of}
use Rattle.pg_intentions.specs.Seeks.{matches}
use Rattle.pg_repair.specs.Filling.{few_golds, live_golds}

abbrev pub is_this : ℕ → Option ℕ → Bool
is_this server None = false
is_this server (Some other) = other == server

-- the least live gold that a thing sees is this server's
abbrev pub is_least_gold : Store → FileId → Bool
is_least_gold store file =
    is_this (server_of store) (first_gold (removed_of store) (flags_of store file))

-- full and gold, it sees few live golds, of which this server's is the least
abbrev pub invites : Store → FileId → Bool
invites store file = is_full store file && (is_gold store file
    && (nat_lt (live_golds store file) few_golds && is_least_gold store file))

-- the first of these edges that matches no raised flag of a live server
abbrev pub first_loose : List ℕ → Option Attributes → List Edge → Option Edge
first_loose removed None edges = None
first_loose removed (Some own) edges = find (λ e. not (matches removed own.flags e)) edges

-- the one of a thing to the least peer
abbrev pub loose_edge : Store → FileId → Option Edge
loose_edge store file =
    first_loose (removed_of store) (own_at store.names file) (edges_of store file)

abbrev pub invite_along : Store → FileId → Option Edge → Work → Work
invite_along store file None work = work
invite_along store file (Some e) work = with_tail work
    (sent_to store e.peer (message.Invite (ends_to store file e.birth)))

abbrev pub invite_of : Store → FileId → Work → Work
invite_of store file work =
    if invites store file then invite_along store file (loose_edge store file) work else work

abbrev pub invite_each : Store → List FileId → Work → Work
invite_each store [] work = work
invite_each store (file ∷ files) work = invite_each store files (invite_of store file work)

-- of all that is held, by id; they go last
abbrev pub invite_all : Store → Work → Work
invite_all store work = invite_each store (keys_of store.names.held) work
