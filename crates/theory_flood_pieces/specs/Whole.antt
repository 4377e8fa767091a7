-- What holds of each server: its edges are to other servers, and names are as the house rules ask.
use Rattle.std.specs.Prelude.{ℕ, ◌≡◌, ◌≢◌, ◌≤◌, true, All, List, Some}
use Rattle.std.specs.List.{IsAmong}
use Rattle.std.specs.List.Sorted.{IsStrictlySortedBy}
use Rattle.std.specs.Map.{keys_of}
use Rattle.pg_base.specs.declared.id.FileId.{FileId}
use Rattle.pg_base.specs.Id.{file_cmp}
use Rattle.pg_edges.specs.declared.edge.Edge.{Edge}
use Rattle.pg_edges.specs.Edges.{AscendFrom, peers}
use Rattle.pg_edges.specs.Key.{key_cmp}
use Rattle.pg_entries.specs.declared.entry.Entry.{Entry}
use Rattle.pg_cells.specs.pg_house.Facts.{AreByServer, IsLast, IsOfDirs}
use Rattle.pg_cells.specs.pg_intent.declared.intent.Intent.TheVariants as intent
use Rattle.pg_cells.specs.pg_names.Names.{NamesValue, cell_at, is_dir}
use Rattle.pg_cells.specs.pg_replica.declared.replica.Replica.{Replica}
use Rattle.pg_cells.specs.pg_store.declared.store.Store.{Store}
use Rattle.pg_cells.specs.pg_store.Seen.{server_of}
use Rattle.pg_cells.specs.pg_store.Together.{AreTogether}

-- another server than s of n
pub record IsOther (n s peer : ℕ) : Type 0 where
  pub least : 1 ≤ peer
  pub most : peer ≤ n
  pub apart : peer ≢ s

-- an edge of a replica of server s of n
pub record IsEdge (n s : ℕ) (e : Edge) : Type 0 where
  pub other : IsOther n s e.peer
  pub sorted : IsStrictlySortedBy key_cmp (keys_of e.keys)

-- the edges of a replica of server s of n: at most one to each other server, by number
pub record AreEdges (n s : ℕ) (es : List Edge) : Type 0 where
  pub each : All (IsEdge n s) es
  pub order : AscendFrom 0 (peers es)

-- each entry of a directory is at its own child
abbrev pub AreByChild : NamesValue → Type 0
AreByChild names =
    (dir child : FileId) (e : Entry) → cell_at names dir child ≡ Some e → e.child ≡ child

-- only directories have entries, flags are by server, no stamp of a place is later than the
-- greatest time, and entries stand at their children
pub record AreOrderly (names : NamesValue) : Type 0 where
  pub dirs : IsOfDirs names
  pub sorted : AreByServer names
  pub last : IsLast names
  pub children : AreByChild names

-- Patches are for directories
abbrev pub PatchesAreForDirs : Store → Type 0
PatchesAreForDirs a = (dir : FileId) (e : Entry) (target : ℕ)
    → IsAmong a.intents (intent.Patch dir e target) → is_dir dir ≡ true

-- server s of n
pub record IsWhole (n s : ℕ) (a : Store) : Type 0 where
  pub server : server_of a ≡ s
  pub servers : a.servers ≡ n
  pub names : AreOrderly a.names
  pub replicas : All (λ (r : FileId × Replica). AreEdges n s r.1.edges) a.replicas
  pub order : IsStrictlySortedBy file_cmp (keys_of a.replicas)
  pub together : AreTogether a
  pub patches : PatchesAreForDirs a
