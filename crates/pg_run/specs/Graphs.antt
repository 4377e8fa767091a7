-- The graph of a thing: which servers that hold it name each other's replicas.
use Rattle.std.specs.Prelude.{ℕ, ◌≡◌, ◌⊎◌, true, List, [], ◌∷◌, Some}
use Rattle.pg_base.specs.declared.id.FileId.{FileId}
use Rattle.pg_edges.specs.Edges.{is_listed}
use Rattle.pg_server.specs.pg_pieces.pg_replica.declared.replica.Replica.{Replica}
use Rattle.pg_server.specs.pg_pieces.pg_store.Store.{replica_at}
use Rattle.pg_run.specs.Run.{World, is_live}

-- a server holds the thing
pub record Holds (w : World) (file : FileId) (s : ℕ) : Type 0 where
  pub replica : Replica
  pub is : replica_at (w.stores s) file ≡ Some replica

-- two servers have an edge for a thing: each lists the present birth of the other's replica
pub record HasEdge (w : World) (file : FileId) (s t : ℕ) : Type 0 where
  pub here : Holds w file s
  pub there : Holds w file t
  pub names : is_listed here.replica.edges t there.replica.birth ≡ true
  pub named : is_listed there.replica.edges s here.replica.birth ≡ true

-- edges lead from the first server over these to the other
abbrev pub IsChain : World → FileId → ℕ → List ℕ → ℕ → Type 0
IsChain w file s [] t = HasEdge w file s t
IsChain w file s (u ∷ us) t = HasEdge w file s u × IsChain w file u us t

abbrev pub AreJoined : World → FileId → ℕ → ℕ → Type 0
AreJoined w file s t = (between : List ℕ) × IsChain w file s between t

-- any two live servers that hold the thing are joined
abbrev pub IsConnected : ℕ → World → FileId → Type 0
IsConnected servers w file = (s t : ℕ) → is_live servers w s ≡ true → is_live servers w t ≡ true
    → Holds w file s → Holds w file t → (s ≡ t) ⊎ AreJoined w file s t

-- and so it is of each thing that a live server holds
abbrev pub AreConnected : ℕ → World → Type 0
AreConnected servers w = (file : FileId) → IsConnected servers w file
