-- What peers have not acknowledged, over the replicas of all files.
use Rattle.std.specs.Prelude.{ℕ, List, [], map, Option, None, Some}
use Rattle.std.specs.List.{flat_map}
use Rattle.pg_base.specs.declared.id.FileId.{FileId}
use Rattle.pg_edges.specs.declared.edge.Edge.{Edge}
use Rattle.pg_edges.specs.Edges.{edge_to}
use Rattle.pg_unacked.specs.declared.due.Due.{Due}
use Rattle.pg_unacked.specs.Changes.{AreDueOf}
use Rattle.pg_unacked.specs.Due.{UnackedValue}
use Rattle.pg_replica.specs.declared.replica.Replica.{Replica}
use Rattle.pg_replica.specs.Replicas.{ByFile, replica_in}

-- a due of this file for each key of the edge, in their order
abbrev pub keys_due : FileId → Option Edge → List Due
keys_due file None = []
keys_due file (Some e) = map (λ k. record { file = file; key = k.0 }) e.keys

abbrev pub dues_of : ℕ → FileId × Replica → List Due
dues_of peer r = keys_due r.0 (edge_to r.1.edges peer)

-- what the peer has not acknowledged, by file and then by key
abbrev pub unacked : ByFile → ℕ → List Due
unacked replicas peer = flat_map (dues_of peer) replicas

-- ---- an index of it

abbrev pub edges_of : Option Replica → List Edge
edges_of None = []
edges_of (Some x) = x.edges

-- of each file just the keys of its replica's edges are due, each at its peer
abbrev pub AreDue : UnackedValue → ByFile → Type 0
AreDue u replicas = (file : FileId) → AreDueOf u file (edges_of (replica_in replicas file))
