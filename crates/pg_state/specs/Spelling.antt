-- How the state of a server is spelled.
use Rattle.std.specs.Prelude.{ℕ, ◌-◌, List, ◌++◌, codes}
use Rattle.pg_base.specs.declared.id.FileId.{FileId}
use Rattle.pg_base.specs.declared.id.Kind.{Kind}
use Rattle.pg_base.specs.declared.id.Kind.TheVariants.{Dir, File}
use Rattle.pg_entries.specs.declared.entry.Entry.{Entry}
use Rattle.pg_edges.specs.declared.key.Key.{Key}
use Rattle.pg_edges.specs.declared.edge.Edge.{Edge}
use Rattle.pg_delta.specs.declared.delta.KeptDelta.{KeptDelta}
use Rattle.pg_replica.specs.declared.replica.Replica.{Replica}
use Rattle.pg_replica.specs.Replicas.{ByFile, or_nothing, replica_in}
use Rattle.pg_names.specs.Names.{InodeValue}
use Rattle.pg_intent.specs.declared.intent.Intent.{Intent}
use Rattle.pg_intent.specs.declared.intent.Intent.TheVariants as intent
use Rattle.pg_announced.specs.declared.announced.Announced.{Announced}
use Rattle.pg_announced.specs.declared.announced.NoteKey.{NoteKey}
use Rattle.pg_store.specs.declared.store.Store.{Store}
use Rattle.pg_store.specs.declared.wishes.Wish.{Wish}
use Rattle.pg_codec.specs.Spelling.{number_bytes, flag_bytes, file_bytes, stamp_bytes}
use Rattle.pg_packet_write.specs.Fields.{counted, listed, entry_bytes, golds_bytes, head_bytes, key_bytes, place_bytes, policy_bytes, ranges_bytes, stamps_bytes, version_bytes}

-- how every state begins: what it is, and the number of this format
abbrev pub mark : List ℕ
mark = codes "pangaea-state-01"

-- ---- what a replica has

-- the child's place and flags
unfoldable pub child_bytes : FileId × Entry → List ℕ
child_bytes e = entry_bytes e.1

-- from which versions, to which one, and the ranges
unfoldable pub kept_bytes : KeptDelta → List ℕ
kept_bytes d = stamps_bytes d.from ++ (stamp_bytes d.to ++ ranges_bytes d.ranges)

-- a key that is not acknowledged, and its tag
unfoldable pub tagged_bytes : Key × ℕ → List ℕ
tagged_bytes k = key_bytes k.0 ++ number_bytes 8 k.1

-- the peer, the birth of its replica, and the keys
unfoldable pub edge_bytes : Edge → List ℕ
edge_bytes e = number_bytes 4 e.peer ++ (number_bytes 8 e.birth ++ listed 4 tagged_bytes e.keys)

-- of a file its heads, each with its whole body, and the kept deltas, the oldest first
unfoldable pub content_bytes : Replica → List ℕ
content_bytes x = listed 2 version_bytes x.content.heads ++ listed 1 kept_bytes x.kept

-- and of a directory its entries, by child
unfoldable pub inside_bytes : Kind → InodeValue → Replica → List ℕ
inside_bytes Dir held x = listed 4 child_bytes held.entries
inside_bytes File held x = content_bytes x

-- id, birth, policy, whether it is full, place, flags, what is inside, and the edges by peer
unfoldable pub replica_bytes : FileId → InodeValue → Replica → List ℕ
replica_bytes id held x = file_bytes id ++ (number_bytes 8 x.birth
    ++ (policy_bytes x.content.policy ++ (flag_bytes held.full ++ (place_bytes held.own.place
    ++ (golds_bytes held.own.flags ++ (inside_bytes id.kind held x
    ++ listed 1 edge_bytes x.edges))))))

-- a thing that is held, with its replica
unfoldable pub held_bytes : ByFile → FileId × InodeValue → List ℕ
held_bytes replicas e = replica_bytes e.0 e.1 (or_nothing (replica_in replicas e.0))

-- ---- what is intended, wished and announced

-- a server that is asked, or 0
unfoldable pub target_bytes : ℕ → List ℕ
target_bytes server = number_bytes 4 server

-- the number of the kind, the fields and the target. The target of a Bye and of a Leave is the peer
unfoldable pub intent_bytes : Intent → List ℕ
intent_bytes (intent.Bye file birth peer peer_birth) = number_bytes 1 1
    ++ (file_bytes file ++ (number_bytes 8 birth ++ (number_bytes 4 peer
    ++ (number_bytes 8 peer_birth ++ target_bytes peer))))
intent_bytes (intent.Seek file target) =
    number_bytes 1 2 ++ (file_bytes file ++ target_bytes target)
intent_bytes (intent.Fill file birth target) =
    number_bytes 1 3 ++ (file_bytes file ++ (number_bytes 8 birth ++ target_bytes target))
intent_bytes (intent.Patch dir entry target) =
    number_bytes 1 4 ++ (file_bytes dir ++ (entry_bytes entry ++ target_bytes target))
intent_bytes (intent.Confirm dir child target) =
    number_bytes 1 5 ++ (file_bytes dir ++ (file_bytes child ++ target_bytes target))
intent_bytes (intent.Leave file peer peer_birth) = number_bytes 1 6
    ++ (file_bytes file ++ (number_bytes 4 peer ++ (number_bytes 8 peer_birth
    ++ target_bytes peer)))

-- id, birth, target
unfoldable pub wish_bytes : FileId × Wish → List ℕ
wish_bytes w = file_bytes w.0 ++ (number_bytes 8 w.1.birth ++ target_bytes w.1.target)

-- id, head, source, tag, and the bytes that are here
unfoldable pub note_bytes : NoteKey × Announced → List ℕ
note_bytes n = file_bytes n.0.file ++ (head_bytes n.1.head ++ (target_bytes n.1.source
    ++ (number_bytes 8 n.1.tag ++ counted 4 n.1.bytes)))

-- ---- the whole

-- the numbers that a server gives out: the greatest time, the latest id, the latest birth, and the
-- latest tag. The store keeps the tag behind it
unfoldable pub counters_bytes : Store → List ℕ
counters_bytes store = number_bytes 8 store.names.last ++ (number_bytes 8 store.files
    ++ (number_bytes 8 store.births ++ number_bytes 8 (store.tags - 1)))

-- the server, how many there are, and those that were removed, in the order of their removals
unfoldable pub servers_bytes : Store → List ℕ
servers_bytes store = number_bytes 4 store.names.server ++ (number_bytes 4 store.servers
    ++ listed 1 (number_bytes 4) store.names.removed)

-- the intentions in the order in which they began, the wishes by id, and the announced versions by
-- id and stamp
unfoldable pub waiting_bytes : Store → List ℕ
waiting_bytes store = listed 4 intent_bytes store.intents
    ++ (listed 4 wish_bytes store.wishes ++ listed 4 note_bytes store.announced)

-- the mark, the servers, the counters, the replicas by id, and what is waited for
unfoldable pub state_bytes : Store → List ℕ
state_bytes store = mark ++ (servers_bytes store ++ (counters_bytes store
    ++ (listed 4 (held_bytes store.replicas) store.names.held ++ waiting_bytes store)))
