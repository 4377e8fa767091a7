-- How many things a server holds and owes.
use Rattle.std.specs.Prelude.{ℕ, ◌+◌, List, [], ◌∷◌, length, Option, None, Some}
use Rattle.pg_base.specs.declared.id.FileId.{FileId}
use Rattle.pg_edges.specs.declared.edge.Edge.{Edge}
use Rattle.pg_pieces.specs.pg_replica.declared.replica.Replica.{Replica}
use Rattle.pg_pieces.specs.pg_store.declared.store.Store.{Store}

-- the unacknowledged keys of edges, of replicas, of a server
abbrev pub edge_keys : List Edge → ℕ
edge_keys [] = 0
edge_keys (e ∷ es) = length e.keys + edge_keys es

abbrev pub replica_keys : List (FileId × Replica) → ℕ
replica_keys [] = 0
replica_keys (r ∷ rs) = edge_keys r.1.edges + replica_keys rs

-- of a file, where it has a replica
abbrev pub file_keys : Option Replica → ℕ
file_keys None = 0
file_keys (Some x) = edge_keys x.edges

abbrev pub key_count : Store → ℕ
key_count store = replica_keys store.replicas
