-- What a server may hold and note, so that what it sends has a spelling.
use Rattle.std.specs.Prelude.{ℕ, ◌≡◌, ◌≤◌, List, Some}
use Rattle.std.specs.List.{All}
use Rattle.pg_base.specs.declared.id.FileId.{FileId}
use Rattle.pg_base.specs.declared.id.Kind.TheVariants.{Dir}
use Rattle.pg_base.specs.Id as id
use Rattle.pg_base.specs.Version.{VersionValue}
use Rattle.pg_register.specs.declared.flag.Flag.{Flag}
use Rattle.pg_register.specs.declared.place.Place.{Place}
use Rattle.pg_register.specs.Flag.{IsByServer}
use Rattle.pg_register.specs.Place.{IsPlaceName}
use Rattle.pg_entries.specs.declared.entry.Entry.{Entry}
use Rattle.pg_edges.specs.declared.edge.Edge.{Edge}
use Rattle.pg_announced.specs.declared.announced.Announced.{Announced}
use Rattle.pg_announced.specs.declared.announced.NoteKey.{NoteKey}
use Rattle.pg_server.specs.pg_pieces.pg_intent.declared.intent.Intent.{Intent}
use Rattle.pg_server.specs.pg_pieces.pg_intent.declared.intent.Intent.TheVariants as intent
use Rattle.pg_server.specs.pg_pieces.pg_intent.Intent.{target_of}
use Rattle.pg_server.specs.pg_pieces.pg_names.declared.attributes.Attributes.{Attributes}
use Rattle.pg_server.specs.pg_pieces.pg_names.Names.{InodeValue, NamesValue, known}
use Rattle.pg_server.specs.pg_pieces.pg_replica.declared.replica.Replica.{Replica}
use Rattle.pg_server.specs.pg_pieces.pg_store.declared.store.Store.{Store}
use Rattle.pg_server.specs.pg_pieces.pg_store.declared.wishes.Wish.{Wish}
use Rattle.pg_packet_write.specs.Fits.{FitsHead, IsServer}

-- a server, or 0 for none
abbrev pub MayBeServer : ℕ → Type 0
MayBeServer server = server ≤ 64

-- ---- names

-- it stands in a directory, by a name that a place may have wherever the thing's id is one
pub record FitsPlace (file : FileId) (place : Place) : Type 0 where
  pub parent : place.parent.kind ≡ Dir
  pub name : id.Fits file → IsPlaceName place.name

-- by server, and each of a server: so there are at most 64
pub record FitFlags (flags : List Flag) : Type 0 where
  pub by_server : IsByServer flags
  pub each : All (λ (flag : Flag). IsServer flag.server) flags

pub record FitsOwn (file : FileId) (own : Attributes) : Type 0 where
  pub place : FitsPlace file own.place
  pub flags : FitFlags own.flags

-- a directory's entry for a child
pub record FitsListed (file : FileId) (e : Entry) : Type 0 where
  pub child : e.child ≡ file
  pub place : FitsPlace file e.place
  pub flags : FitFlags e.flags

abbrev pub FitEntries : List (FileId × Entry) → Type 0
FitEntries entries = All (λ (e : FileId × Entry). FitsListed e.0 e.1) entries

pub record FitsInode (file : FileId) (x : InodeValue) : Type 0 where
  pub own : FitsOwn file x.own
  pub entries : FitEntries x.entries

pub record FitsNames (names : NamesValue) : Type 0 where
  pub server : IsServer names.server
  pub held : (file : FileId) (x : InodeValue) → known names file ≡ Some x → FitsInode file x

-- ---- replicas, and what is noted of versions

pub record FitsReplica (x : Replica) : Type 0 where
  pub heads : All (λ (v : VersionValue). FitsHead v.head) x.content.heads
  pub edges : All (λ (e : Edge). MayBeServer e.peer) x.edges

abbrev pub FitsNote : NoteKey × Announced → Type 0
FitsNote note = FitsHead note.1.head

-- ---- intentions

-- what a Patch tells is an entry, and directories are named where there are children
abbrev pub FitsAbout : Intent → Type 0
FitsAbout (intent.Bye file birth peer peer_birth) = Unit {0}
FitsAbout (intent.Seek file target) = Unit {0}
FitsAbout (intent.Fill file birth target) = Unit {0}
FitsAbout (intent.Patch dir entry target) = (dir.kind ≡ Dir) × FitsListed entry.child entry
FitsAbout (intent.Confirm dir child target) = dir.kind ≡ Dir
FitsAbout (intent.Leave file peer peer_birth) = Unit {0}

pub record FitsIntent (i : Intent) : Type 0 where
  pub about : FitsAbout i
  pub target : MayBeServer (target_of i)

-- ---- all

pub record FitsStore (s : Store) : Type 0 where
  pub servers : s.servers ≤ 64
  pub names : FitsNames s.names
  pub replicas : All (λ (r : FileId × Replica). FitsReplica r.1) s.replicas
  pub announced : All FitsNote s.announced
  pub intents : All FitsIntent s.intents
  pub wishes : All (λ (w : FileId × Wish). MayBeServer w.1.target) s.wishes
