-- Gold replicas, and edges to them, after every event.
use Rattle.std.specs.Prelude.{ℕ, ◌≡◌, ◌≢◌, ◌⊎◌, true, Contains, List, Some}
use Rattle.pg_base.specs.declared.id.FileId.{FileId}
use Rattle.pg_register.specs.declared.flag.Flag.{Flag}
use Rattle.pg_register.specs.Flag.{is_live}
use Rattle.pg_edges.specs.declared.edge.Edge.{Edge}
use Rattle.pg_event.specs.declared.event.Event.{Event}
use Rattle.pg_server.specs.pg_pieces.pg_intent.declared.key.IntentKey.TheVariants as key
use Rattle.pg_server.specs.pg_pieces.pg_intent.Intents.{stands}
use Rattle.pg_server.specs.pg_pieces.pg_names.Names.{InodeValue, known}
use Rattle.pg_server.specs.pg_pieces.pg_replica.declared.replica.Replica.{Replica}
use Rattle.pg_server.specs.pg_pieces.pg_store.declared.store.Store.{Store}
use Rattle.pg_server.specs.pg_pieces.pg_store.Seen.{removed_of, server_of}
use Rattle.pg_server.specs.pg_pieces.pg_store.Store.{replica_at}
use Rattle.pg_run.specs.Laws.{AtEach, store_after}

-- a live gold: its flag is raised, and its server is not removed in the server's view
abbrev pub IsLiveGold : Store → Flag → Type 0
IsLiveGold a flag = is_live (removed_of a) flag ≡ true

-- ---- what is seen

-- what is full sees a live gold
abbrev pub FullSeeGold : Store → Type 0
FullSeeGold a = (file : FileId) (x : InodeValue) → known a.names file ≡ Some x → x.full ≡ true
    → (flag : Flag) × Contains x.own.flags flag × IsLiveGold a flag

-- GOLDS ARE SEEN: at each server, after every event
abbrev pub FullReplicasSeeGold : ℕ → Type 0
FullReplicasSeeGold servers = (events : List Event)
    → AtEach servers (λ s. FullSeeGold (store_after servers events s))

-- ---- what is named

-- a replica, and what the server knows of its flags
pub record HasReplica (a : Store) (file : FileId) (x : InodeValue) (r : Replica) : Type 0 where
  pub known_is : known a.names file ≡ Some x
  pub replica_is : replica_at a file ≡ Some r

-- the server's own flag of it is raised, with the replica's birth
abbrev pub IsGold : Store → InodeValue → Replica → Type 0
IsGold a x r = (flag : Flag) × Contains x.own.flags flag
    × (flag.server ≡ server_of a) × (flag.birth ≡ r.birth) × (flag.raised ≡ true)

-- an edge names the replica that a flag is of
abbrev pub Names : Edge → Flag → Type 0
Names edge flag = (edge.peer ≡ flag.server) × (edge.birth ≡ flag.birth)

abbrev pub NamesOne : Replica → Flag → Type 0
NamesOne r flag = (edge : Edge) × Contains r.edges edge × Names edge flag

-- some edge names a live gold that is seen
abbrev pub NamesAGold : Store → InodeValue → Replica → Type 0
NamesAGold a x r = (flag : Flag) × Contains x.own.flags flag × IsLiveGold a flag × NamesOne r flag

abbrev pub Seeks : Store → FileId → Type 0
Seeks a file = stands a.intents (key.Seek file) ≡ true

-- gold: a gold replica names every live gold of another server that it sees, or owes a Seek
-- bronze: another names a live gold that it sees, or owes a Seek
pub record NamesGolds (a : Store) (file : FileId) (x : InodeValue) (r : Replica) : Type 0 where
  pub gold : IsGold a x r → (flag : Flag) → Contains x.own.flags flag → IsLiveGold a flag
      → flag.server ≢ server_of a → NamesOne r flag ⊎ Seeks a file
  pub bronze : (IsGold a x r → ⊥) → NamesAGold a x r ⊎ Seeks a file

-- GOLDS ARE NAMED: at each server, after every event
abbrev pub ReplicasNameGolds : ℕ → Type 0
ReplicasNameGolds servers = (events : List Event)
    → AtEach servers (λ s. (file : FileId) (x : InodeValue) (r : Replica)
    → HasReplica (store_after servers events s) file x r
    → NamesGolds (store_after servers events s) file x r)
