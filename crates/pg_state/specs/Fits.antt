-- What has a spelling in a state. Numbers have their widths by their types.
use Rattle.std.specs.Prelude.{ℕ, ◌≡◌, ◌<◌, ◌≤◌, ◌^◌, List, [], Option, None, Some, length, map}
use Rattle.std.specs.List.{AllByRecursion}
use Rattle.std.specs.List.Sorted.{IsStrictlyIncreasing, IsStrictlySortedBy}
use Rattle.std.specs.Map.{keys_of}
use Rattle.pg_base.specs.declared.id.FileId.{FileId}
use Rattle.pg_base.specs.declared.id.Kind.{Kind}
use Rattle.pg_base.specs.declared.id.Kind.TheVariants.{Dir, File}
use Rattle.pg_base.specs.declared.policy.Policy.TheVariants.{Last}
use Rattle.pg_base.specs.Id.{file_cmp}
use Rattle.pg_base.specs.Vector.{IsVector}
use Rattle.pg_base.specs.Version.{VersionValue, stamp_of}
use Rattle.pg_patch.specs.Ranges.{IsRanges, body_limit}
use Rattle.pg_register.specs.declared.flag.Flag.{Flag}
use Rattle.pg_register.specs.Flag.{IsByServer}
use Rattle.pg_entries.specs.declared.entry.Entry.{Entry}
use Rattle.pg_entries.specs.Entry.{IsByChild}
use Rattle.pg_edges.specs.declared.key.Key.{Key}
use Rattle.pg_edges.specs.declared.edge.Edge.{Edge}
use Rattle.pg_edges.specs.Key.{key_cmp}
use Rattle.pg_edges.specs.Edges.{peers}
use Rattle.pg_delta.specs.declared.delta.KeptDelta.{KeptDelta}
use Rattle.pg_replica.specs.declared.replica.Replica.{Replica}
use Rattle.pg_replica.specs.Replicas.{ByFile, replica_in}
use Rattle.pg_names.specs.Names.{InodeValue}
use Rattle.pg_intent.specs.declared.intent.Intent.{Intent}
use Rattle.pg_intent.specs.declared.intent.Intent.TheVariants as intent
use Rattle.pg_intent.specs.Intents.{HaveOwnKeys}
use Rattle.pg_announced.specs.declared.announced.Announced.{Announced}
use Rattle.pg_announced.specs.declared.announced.NoteKey.{NoteKey}
use Rattle.pg_announced.specs.Announced.{AreSorted, NotesValue}
use Rattle.pg_store.specs.declared.store.Store.{Store}
use Rattle.pg_store.specs.declared.wishes.Wish.{Wish}
use Rattle.pg_store.specs.Wishes.{WishesValue}
use Rattle.pg_words.specs.FileWord.{IsDirectory}
use Rattle.pg_words.specs.PlaceWords.{IsPlace}
use Rattle.pg_packet_write.specs.Fits.{FitGolds, FitStamps, FitsHead, FitsKey, FitsRanges, IsServer, Rise}

-- a server that is asked, or 0 for none
pub record IsTarget (server : ℕ) : Type 0 where
  pub most : server ≤ 64

-- ---- places and flags

-- at most 64 flags by server, each of a server and with a number below 2^63
pub record FitFlags (flags : List Flag) : Type 0 where
  pub golds : FitGolds flags
  pub by_server : IsByServer flags
  pub low : AllByRecursion (λ (flag : Flag). flag.number < 2 ^ 63) flags

pub record FitsChild (e : Entry) : Type 0 where
  pub place : IsPlace e.place
  pub flags : FitFlags e.flags

-- ---- what is inside

-- few enough to be counted, by child
pub record FitChildren (entries : List (FileId × Entry)) : Type 0 where
  pub few : length entries < 2 ^ 32
  pub by_child : IsByChild entries
  pub each : AllByRecursion (λ (e : FileId × Entry). FitsChild e.1) entries

-- a head with its whole body
pub record FitsWhole (v : VersionValue) : Type 0 where
  pub head : FitsHead v.head
  pub vector : IsVector v.head.vector
  pub short : v.head.length ≤ body_limit
  pub body : length v.body ≡ v.head.length

-- few enough to be counted, each stamp before the next
pub record FitHeads (heads : List VersionValue) : Type 0 where
  pub few : length heads < 2 ^ 16
  pub rise : Rise (map stamp_of heads)
  pub each : AllByRecursion FitsWhole heads

pub record FitsKept (d : KeptDelta) : Type 0 where
  pub from : FitStamps d.from
  pub parts : FitsRanges d.ranges
  pub ranges : IsRanges d.ranges

-- few enough to be counted
pub record FitKept (deltas : List KeptDelta) : Type 0 where
  pub few : length deltas < 2 ^ 8
  pub each : AllByRecursion FitsKept deltas

-- a directory has no version
pub record FitsDirectory (held : InodeValue) (x : Replica) : Type 0 where
  pub policy : x.content.policy ≡ Last
  pub heads : x.content.heads ≡ []
  pub kept : x.kept ≡ []
  pub children : FitChildren held.entries

-- a file has no entry
pub record FitsFile (held : InodeValue) (x : Replica) : Type 0 where
  pub entries : held.entries ≡ []
  pub heads : FitHeads x.content.heads
  pub kept : FitKept x.kept

abbrev pub FitsInside : Kind → InodeValue → Replica → Type 0
FitsInside Dir held x = FitsDirectory held x
FitsInside File held x = FitsFile held x

-- ---- edges

-- to a server, with few enough keys to be counted, by key
pub record FitsEdge (e : Edge) : Type 0 where
  pub peer : IsServer e.peer
  pub few : length e.keys < 2 ^ 32
  pub by_key : IsStrictlySortedBy key_cmp (keys_of e.keys)
  pub keys : AllByRecursion (λ (k : Key × ℕ). FitsKey k.0) e.keys

-- few enough to be counted, by peer
pub record FitEdges (es : List Edge) : Type 0 where
  pub few : length es < 2 ^ 8
  pub by_peer : IsStrictlyIncreasing (peers es)
  pub each : AllByRecursion FitsEdge es

-- ---- replicas

pub record FitsReplica (id : FileId) (held : InodeValue) (x : Replica) : Type 0 where
  pub place : IsPlace held.own.place
  pub flags : FitFlags held.own.flags
  pub inside : FitsInside id.kind held x
  pub edges : FitEdges x.edges

-- there is a replica, and it fits
abbrev pub FitsBeside : FileId → InodeValue → Option Replica → Type 0
FitsBeside id held None = ⊥
FitsBeside id held (Some x) = FitsReplica id held x

-- a thing that is held, with its replica
abbrev pub FitsHeld : ByFile → FileId × InodeValue → Type 0
FitsHeld replicas e = FitsBeside e.0 e.1 (replica_in replicas e.0)

-- few enough to be counted, and as many replicas
pub record AreCounted (held : List (FileId × InodeValue)) (replicas : ByFile) : Type 0 where
  pub few : length held < 2 ^ 32
  pub many : length held ≡ length replicas

-- few enough to be counted, by id; just what is held has a replica
pub record FitReplicas (held : List (FileId × InodeValue)) (replicas : ByFile) : Type 0 where
  pub few : length held < 2 ^ 32
  pub by_id : IsStrictlySortedBy file_cmp (keys_of held)
  pub same : keys_of replicas ≡ keys_of held
  pub each : AllByRecursion (FitsHeld replicas) held

-- ---- what is intended, wished and announced

pub record FitsPatch (parent : FileId) (entry : Entry) (server : ℕ) : Type 0 where
  pub dir : IsDirectory parent
  pub child : FitsChild entry
  pub target : IsTarget server

pub record FitsConfirm (parent : FileId) (server : ℕ) : Type 0 where
  pub dir : IsDirectory parent
  pub target : IsTarget server

abbrev pub FitsIntent : Intent → Type 0
FitsIntent (intent.Bye file birth peer peer_birth) = IsServer peer
FitsIntent (intent.Seek file target) = IsTarget target
FitsIntent (intent.Fill file birth target) = IsTarget target
FitsIntent (intent.Patch dir entry target) = FitsPatch dir entry target
FitsIntent (intent.Confirm dir child target) = FitsConfirm dir target
FitsIntent (intent.Leave file peer peer_birth) = IsServer peer

-- few enough to be counted, no two of one key
pub record FitIntents (intents : List Intent) : Type 0 where
  pub few : length intents < 2 ^ 32
  pub own_keys : HaveOwnKeys intents
  pub each : AllByRecursion FitsIntent intents

-- few enough to be counted, by id
pub record FitWishes (wishes : WishesValue) : Type 0 where
  pub few : length wishes < 2 ^ 32
  pub by_id : IsStrictlySortedBy file_cmp (keys_of wishes)
  pub each : AllByRecursion (λ (w : FileId × Wish). IsTarget w.1.target) wishes

-- at the stamp of its head
pub record FitsNote (n : NoteKey × Announced) : Type 0 where
  pub stamp : n.0.stamp ≡ n.1.head.stamp
  pub head : FitsHead n.1.head
  pub vector : IsVector n.1.head.vector
  pub source : IsTarget n.1.source
  pub short : length n.1.bytes < 2 ^ 32

-- few enough to be counted, by id and stamp
pub record FitNotes (notes : NotesValue) : Type 0 where
  pub few : length notes < 2 ^ 32
  pub by_version : AreSorted notes
  pub each : AllByRecursion FitsNote notes

-- ---- the greatest time

-- no stamp is later: of the place, of the entries' places and of the heads
pub record IsHeldInTime (last : ℕ) (held : InodeValue) (x : Replica) : Type 0 where
  pub place : held.own.place.stamp.time ≤ last
  pub entries : AllByRecursion (λ (e : FileId × Entry). e.1.place.stamp.time ≤ last) held.entries
  pub heads : AllByRecursion (λ (v : VersionValue). v.head.stamp.time ≤ last) x.content.heads

abbrev pub IsBesideInTime : ℕ → InodeValue → Option Replica → Type 0
IsBesideInTime last held None = ⊥
IsBesideInTime last held (Some x) = IsHeldInTime last held x

-- the same of a thing that is held, with its replica
abbrev pub IsThingInTime : ℕ → ByFile → FileId × InodeValue → Type 0
IsThingInTime last replicas e = IsBesideInTime last e.1 (replica_in replicas e.0)

-- nor that of the place in a Patch
abbrev pub IsIntentInTime : ℕ → Intent → Type 0
IsIntentInTime last (intent.Patch dir entry target) = entry.place.stamp.time ≤ last
IsIntentInTime last i = Unit {0}

pub record IsInTime (store : Store) : Type 0 where
  pub held : AllByRecursion (IsThingInTime store.names.last store.replicas) store.names.held
  pub intents : AllByRecursion (IsIntentInTime store.names.last) store.intents

-- ---- the whole

-- those that were removed: few enough to be counted
pub record FitServers (removed : List ℕ) : Type 0 where
  pub few : length removed < 2 ^ 8
  pub each : AllByRecursion IsServer removed

pub record FitsState (store : Store) : Type 0 where
  pub server : IsServer store.names.server
  pub servers : IsServer store.servers
  pub removed : FitServers store.names.removed
  pub tags : 1 ≤ store.tags
  pub replicas : FitReplicas store.names.held store.replicas
  pub intents : FitIntents store.intents
  pub wishes : FitWishes store.wishes
  pub announced : FitNotes store.announced
  pub time : IsInTime store
