-- What the types of a store keep: widths of numbers, and bytes.
use Rattle.std.specs.Prelude.{ℕ, Option, None, Some}
use Rattle.std.specs.List.{AllByRecursion}
use Rattle.law_written.specs.Widths.{HasFlagWidth, HasPartBytes}
use Rattle.pg_announced.specs.declared.announced.Announced.{Announced}
use Rattle.pg_announced.specs.declared.announced.NoteKey.{NoteKey}
use Rattle.pg_base.specs.Id as id
use Rattle.pg_base.specs.Version.{VersionValue}
use Rattle.pg_base.specs.declared.head.Head.{Head}
use Rattle.pg_base.specs.declared.id.FileId.{FileId}
use Rattle.pg_codec.specs.Laws.{AreBytes, HasStampWidth, HasWidth}
use Rattle.pg_delta.specs.declared.delta.KeptDelta.{KeptDelta}
use Rattle.pg_edges.specs.declared.edge.Edge.{Edge}
use Rattle.pg_edges.specs.declared.key.Key.{Key}
use Rattle.pg_edges.specs.declared.key.Key.TheVariants as key
use Rattle.pg_entries.specs.declared.entry.Entry.{Entry}
use Rattle.pg_intent.specs.declared.intent.Intent.{Intent}
use Rattle.pg_intent.specs.declared.intent.Intent.TheVariants as intent
use Rattle.pg_names.specs.Names.{InodeValue}
use Rattle.pg_names.specs.declared.attributes.Attributes.{Attributes}
use Rattle.pg_replica.specs.Replicas.{ByFile, replica_in}
use Rattle.pg_replica.specs.declared.replica.Replica.{Replica}
use Rattle.pg_store.specs.declared.store.Store.{Store}
use Rattle.pg_store.specs.declared.wishes.Wish.{Wish}

-- ---- places and entries

pub record HasOwnWidth (own : Attributes) : Type 0 where
  pub name : AreBytes own.place.name
  pub flags : AllByRecursion HasFlagWidth own.flags

pub record HasEntryWidth (e : Entry) : Type 0 where
  pub child : id.Fits e.child
  pub name : AreBytes e.place.name
  pub flags : AllByRecursion HasFlagWidth e.flags

-- ---- heads and deltas

pub record HasHeadWidth (h : Head) : Type 0 where
  pub stamp : HasStampWidth h.stamp
  pub birth : HasWidth 8 h.birth
  pub number : HasWidth 8 h.number
  pub long : HasWidth 4 h.length

pub record HasVersionWidth (v : VersionValue) : Type 0 where
  pub head : HasHeadWidth v.head
  pub body : AreBytes v.body

pub record HasDeltaWidth (d : KeptDelta) : Type 0 where
  pub bases : AllByRecursion HasStampWidth d.from
  pub to : HasStampWidth d.to
  pub parts : AllByRecursion HasPartBytes d.ranges.parts

-- ---- edges

abbrev pub HasKeyWidth : Key → Type 0
HasKeyWidth key.Place = Unit {0}
HasKeyWidth (key.Flag server) = Unit {0}
HasKeyWidth (key.Entry child) = id.Fits child
HasKeyWidth (key.Version stamp) = HasStampWidth stamp

pub record HasTaggedWidth (k : Key × ℕ) : Type 0 where
  pub key : HasKeyWidth k.0
  pub tag : HasWidth 8 k.1

pub record HasEdgeWidth (e : Edge) : Type 0 where
  pub birth : HasWidth 8 e.birth
  pub keys : AllByRecursion HasTaggedWidth e.keys

-- ---- what is held

pub record HasReplicaWidth (x : Replica) : Type 0 where
  pub birth : HasWidth 8 x.birth
  pub heads : AllByRecursion HasVersionWidth x.content.heads
  pub kept : AllByRecursion HasDeltaWidth x.kept
  pub edges : AllByRecursion HasEdgeWidth x.edges

pub record HasInodeWidth (i : InodeValue) : Type 0 where
  pub own : HasOwnWidth i.own
  pub entries : AllByRecursion (λ (e : FileId × Entry). HasEntryWidth e.1) i.entries

abbrev pub MayHaveWidth : Option Replica → Type 0
MayHaveWidth None = Unit {0}
MayHaveWidth (Some x) = HasReplicaWidth x

-- of a thing, with its replica if there is one
pub record HasThingWidth (replicas : ByFile) (e : FileId × InodeValue) : Type 0 where
  pub file : id.Fits e.0
  pub inode : HasInodeWidth e.1
  pub replica : MayHaveWidth (replica_in replicas e.0)

-- ---- what is waited for

abbrev pub HasIntentWidth : Intent → Type 0
HasIntentWidth (intent.Bye file birth peer peer_birth) =
    id.Fits file × (HasWidth 8 birth × HasWidth 8 peer_birth)
HasIntentWidth (intent.Seek file target) = id.Fits file
HasIntentWidth (intent.Fill file birth target) = id.Fits file × HasWidth 8 birth
HasIntentWidth (intent.Patch dir entry target) = HasEntryWidth entry
HasIntentWidth (intent.Confirm dir child target) = id.Fits child
HasIntentWidth (intent.Leave file peer peer_birth) = id.Fits file × HasWidth 8 peer_birth

pub record HasWishWidth (w : FileId × Wish) : Type 0 where
  pub file : id.Fits w.0
  pub birth : HasWidth 8 w.1.birth

pub record HasNoteWidth (n : NoteKey × Announced) : Type 0 where
  pub file : id.Fits n.0.file
  pub head : HasHeadWidth n.1.head
  pub tag : HasWidth 8 n.1.tag
  pub bytes : AreBytes n.1.bytes

-- ---- the whole

pub record HasStoreWidth (store : Store) : Type 0 where
  pub last : HasWidth 8 store.names.last
  pub files : HasWidth 8 store.files
  pub births : HasWidth 8 store.births
  pub tags : HasWidth 8 store.tags
  pub held : AllByRecursion (HasThingWidth store.replicas) store.names.held
  pub intents : AllByRecursion HasIntentWidth store.intents
  pub wishes : AllByRecursion HasWishWidth store.wishes
  pub announced : AllByRecursion HasNoteWidth store.announced
