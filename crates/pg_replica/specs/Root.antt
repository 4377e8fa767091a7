-- The replica of the root that a server has from the start on.
use Rattle.std.specs.Prelude.{ℕ, ◌==◌, if◌then◌else◌, List, [], zero, suc}
use Rattle.pg_base.specs.declared.policy.Policy.TheVariants.{Last}
use Rattle.pg_edges.specs.declared.edge.Edge.{Edge}
use Rattle.pg_edges.specs.Edges.{put_edge}
use Rattle.pg_replica.specs.declared.replica.Replica.{Replica}
use Rattle.pg_replica.specs.Replica.{new_replica}

-- to the first birth of a peer
abbrev pub clean_edge : ℕ → Edge
clean_edge peer = record { peer = peer; birth = 1; keys = [] }

-- a clean edge more, if the peer is another server
abbrev pub with_clean : ℕ → ℕ → List Edge → List Edge
with_clean server peer es = if peer == server then es else put_edge es (clean_edge peer)

-- a clean edge to each of the first servers but the server itself
abbrev pub clean_edges : ℕ → ℕ → List Edge
clean_edges server zero = []
clean_edges server (suc k) = with_clean server (suc k) (clean_edges server k)

-- the first replica of the root: it has a clean edge to that of each other server
abbrev pub first_root : ℕ → ℕ → Replica
first_root server servers = record (new_replica 1 Last) { edges = clean_edges server servers }
