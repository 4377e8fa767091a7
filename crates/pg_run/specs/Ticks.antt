-- What a tick sends in any run, and what a restart does.
use Rattle.std.specs.Prelude.{ℕ, Bool, true, false, nat_lt, not, Option, None, Some, [], ◌∷◌, ◌++◌, ◌==◌, ◌≡◌, ◌≢◌, ◌≤◌, ◌/◌, ◌%◌, ◌⊎◌, ◌↔◌, List, length, map, slice_get}
use Rattle.std.specs.List.{AllZip, filter}
use Rattle.std.specs.List.Sorted.{IsStrictlySortedBy}
use Rattle.std.specs.Ordering.{nat_cmp, ordering_then}
use Rattle.std.specs.declared.cmp.Ordering.{Ordering}
use Rattle.pg_base.specs.declared.id.FileId.{FileId}
use Rattle.pg_base.specs.Id.{file_cmp, is_same_file}
use Rattle.pg_edges.specs.declared.edge.Edge.{Edge}
use Rattle.pg_edges.specs.Key.{key_cmp}
use Rattle.pg_edges.specs.Keys.{tag_in}
use Rattle.pg_edges.specs.Edges.{AscendFrom, edge_to, peers}
use Rattle.pg_edges.specs.declared.key.Key.{Key}
use Rattle.pg_edges.specs.declared.key.Key.TheVariants as key
use Rattle.pg_entries.specs.declared.cell.Cell.{Cell}
use Rattle.pg_entries.specs.declared.cell.Cell.TheVariants as cell
use Rattle.pg_entries.specs.declared.entry.Entry.{Entry as ChildEntry}
use Rattle.pg_server.specs.pg_pieces.pg_intent.declared.intent.Intent.{Intent}
use Rattle.pg_server.specs.pg_pieces.pg_intent.declared.intent.Intent.TheVariants as intent
use Rattle.pg_server.specs.pg_pieces.pg_intent.Intent.{target_of}
use Rattle.pg_server.specs.pg_pieces.pg_msg.declared.message.Message.{Message}
use Rattle.pg_server.specs.pg_pieces.pg_msg.declared.message.Message.TheVariants as message
use Rattle.pg_server.specs.pg_pieces.pg_msg.declared.message.Sent.{Sent}
use Rattle.pg_server.specs.pg_pieces.pg_msg.declared.summary.Detail.{Detail}
use Rattle.pg_server.specs.pg_pieces.pg_msg.declared.summary.Detail.TheVariants as detail
use Rattle.pg_server.specs.pg_pieces.pg_msg.declared.summary.MessageKind.{MessageKind}
use Rattle.pg_server.specs.pg_pieces.pg_msg.declared.summary.MessageKind.TheVariants as kind
use Rattle.pg_server.specs.pg_pieces.pg_msg.declared.summary.Summary.{Summary}
use Rattle.pg_server.specs.pg_pieces.pg_msg.Sent.{summary}
use Rattle.pg_server.specs.pg_pieces.pg_call.declared.refusal.Refusal.TheVariants.{ClockEnd}
use Rattle.pg_server.specs.pg_pieces.pg_call.declared.reply.Reply.TheVariants.{Done, Refused}
use Rattle.pg_event.specs.declared.entry.Entry.{Entry}
use Rattle.pg_event.specs.declared.event.Event.{Event}
use Rattle.pg_event.specs.declared.event.Event.TheVariants.{Restart, Tick}
use Rattle.pg_event.specs.declared.quiet.OwedKey.{OwedKey}
use Rattle.pg_server.specs.pg_pieces.pg_store.declared.store.Store.{Store}
use Rattle.pg_server.specs.pg_pieces.pg_store.Cells.{cell_at}
use Rattle.pg_server.specs.pg_pieces.pg_names.declared.attributes.Attributes.{Attributes}
use Rattle.pg_server.specs.pg_pieces.pg_names.Names.{cell_at as entry_at, own_at}
use Rattle.pg_server.specs.pg_pieces.pg_replica.declared.replica.Replica.{Replica}
use Rattle.pg_server.specs.pg_pieces.pg_store.Births.{birth_of}
use Rattle.pg_server.specs.pg_pieces.pg_store.Seen.{server_of}
use Rattle.pg_server.specs.pg_pieces.pg_store.Store.{is_full, is_before_clock_end, replica_at}
use Rattle.pg_server.specs.pg_pieces.Posting.{sent_to}
use Rattle.pg_server.specs.pg_cells.Sending.{told_as, waits}
use Rattle.pg_server.specs.pg_pieces.pg_house.Facts.{is_among}
use Rattle.pg_register.specs.Place.{root}
use Rattle.pg_server.specs.pg_graph.Walks.{edges_of}
use Rattle.pg_server.specs.Local.{without_sources, without_volatile}
use Rattle.pg_server.specs.Owing.{owed_keys}
use Rattle.pg_run.specs.Run.{Step, is_live, next, run}

-- its clock is not at its end
abbrev pub HasTime : Store → Type 0
HasTime a = is_before_clock_end a ≡ true

-- ---- the gate

-- the dead place of a directory waits, as long as the peer is owed an entry of it
abbrev pub waits_on : Store → OwedKey → Option Edge → Bool
waits_on a o None = false
waits_on a o (Some e) = waits a o.file e o.key

-- the edge to a peer, of what is held
abbrev pub edge_of : Option Replica → ℕ → Option Edge
edge_of None peer = None
edge_of (Some x) peer = edge_to x.edges peer

abbrev pub is_let : Store → OwedKey → Bool
is_let a o = not (waits_on a o (edge_of (replica_at a o.file) o.peer))

-- the keys that a server owes, but for those that wait
abbrev pub let_through : Store → List OwedKey
let_through a = filter (is_let a) (owed_keys a)

-- ---- one cell

-- a version of more than 1,024 bytes goes by its head alone, all else whole
abbrev pub is_large : Option Cell → Bool
is_large None = false
is_large (Some (cell.Place place)) = false
is_large (Some (cell.Flag flag)) = false
is_large (Some (cell.Entry entry sure)) = false
is_large (Some (cell.Version v)) = nat_lt 1024 v.head.length

abbrev pub told_of : OwedKey → MessageKind → Detail → Summary
told_of o k d =
    record { from = o.server; to = o.peer; kind = k; file = o.file; detail = d }

abbrev pub owed_as : OwedKey → Key → Bool → Summary
owed_as o (key.Version stamp) true = told_of o kind.Harbinger (detail.Stamp stamp)
owed_as o k large = told_of o kind.Cell (detail.Key k)

-- the cell of a key that is owed, as it is told: as a harbinger where it is such a version
abbrev pub owed_cell : Store → OwedKey → Summary
owed_cell a o = owed_as o o.key (is_large (cell_at a o.file o.key))

-- the same, whole: it goes along the edge to the peer, names the births of both ends, and carries
-- the present cell of that key, or its head alone, under the tag that the key has there. `sent_to`
-- is a message in the server's view
pub record IsOwedCell (a : Store) (o : OwedKey) (m : Sent) : Type 0 where
  pub replica : Replica
  pub edge : Edge
  pub tag : ℕ
  pub c : Cell
  pub held : replica_at a o.file ≡ Some replica
  pub linked : edge_to replica.edges o.peer ≡ Some edge
  pub tagged : tag_in edge.keys o.key ≡ Some tag
  pub present : cell_at a o.file o.key ≡ Some c
  pub whole : m ≡ sent_to a o.peer (told_as
      (record { file = o.file; sender = replica.birth; receiver = edge.birth }) tag c)

-- ---- what is asked by intentions

-- those that ask a server, in the order in which they began
abbrev pub asking : Store → List Intent
asking a = filter (λ i. not (target_of i == 0)) a.intents

-- The message of an intention. A Seek names the replica that seeks, a Fill fetches a replica of its
-- birth, a Patch tells its entry, and a Confirm asks for the place and flags of a child as the
-- directory has them now. A Bye names the birth that is over, and a Leave the place that the
-- replica has now
abbrev pub IsAskedBy : Store → Intent → Message → Type 0
IsAskedBy a (intent.Bye file birth peer peer_birth) m =
    m ≡ message.Bye (record { file = file; sender = birth; receiver = peer_birth })
IsAskedBy a (intent.Seek file target) m = m ≡ message.Seek file (birth_of a file)
IsAskedBy a (intent.Fill file birth target) m = m ≡ message.Fetch file birth
IsAskedBy a (intent.Patch dir entry target) m = m ≡ message.Tell dir entry
IsAskedBy a (intent.Confirm dir child target) m =
    (e : ChildEntry) × (entry_at a.names dir child ≡ Some e) × (m ≡ message.Confirm dir e)
IsAskedBy a (intent.Leave file peer peer_birth) m =
    (own : Attributes) × (own_at a.names file ≡ Some own) × (m ≡ message.Leave
    (record { file = file; sender = birth_of a file; receiver = peer_birth }) own.place.stamp)

pub record IsRequest (a : Store) (i : Intent) (m : Sent) : Type 0 where
  pub asked : Message
  pub by : IsAskedBy a i asked
  pub whole : m ≡ sent_to a (target_of i) asked

-- ---- a tick

-- what is owed goes by file, then by peer, then by key
abbrev pub owing_cmp : OwedKey → OwedKey → Ordering
owing_cmp x y =
    ordering_then (file_cmp x.file y.file)
    (ordering_then (nat_cmp x.peer y.peer) (key_cmp x.key y.key))

-- ---- the walk

-- a full replica, not of the root, that has one edge or two
pub record HasFewEdges (a : Store) (file : FileId) : Type 0 where
  pub full : is_full a file ≡ true
  pub inner : is_same_file file root ≡ false
  pub least : 1 ≤ length (edges_of a file)
  pub most : length (edges_of a file) ≤ 2

-- The walk that a word chooses: it begins at one of these replicas, and goes along one of its
-- edges, with three steps to make. It names its origin, and what is left of the word goes with it
pub record IsWalk (a : Store) (files : List FileId) (word : ℕ) (m : Sent) : Type 0 where
  pub file : FileId
  pub chosen : slice_get files (word % length files) ≡ Some file
  pub by_peer : AscendFrom 0 (peers (edges_of a file))
  pub edge : Edge
  pub along : slice_get (edges_of a file)
      ((word / length files) % length (edges_of a file)) ≡ Some edge
  pub whole : m ≡ sent_to a edge.peer (message.Walk
      (record { file = file; sender = birth_of a file; receiver = edge.birth })
      (server_of a) (birth_of a file) 3 ((word / length files) / length (edges_of a file)))

-- few: of all replicas that have few edges, by id
-- one: one walk, where the word is not 0 and there is such a replica
-- none: else none
pub record AreWalks (a : Store) (word : ℕ) (ms : List Sent) : Type 0 where
  pub files : List FileId
  pub few : (file : FileId) → is_among file files ≡ true ↔ HasFewEdges a file
  pub order : IsStrictlySortedBy file_cmp files
  pub one : word ≢ 0 → files ≢ [] → (m : Sent) × (ms ≡ m ∷ []) × IsWalk a files word m
  pub none : (word ≡ 0) ⊎ (files ≡ []) → ms ≡ []

-- ---- all that a tick sends

-- one cell for each key that is owed and does not wait was sent, in their order, behind these one
-- message for each intention that asks a server, in their order, and last the walk that the word
-- chooses, and nothing else; nothing was made
pub record SendsWhatItOwes (a : Store) (word : ℕ) (entry : Entry) : Type 0 where
  pub reply : entry.reply ≡ Some Done
  pub made : entry.made ≡ []
  pub cells : List Sent
  pub requests : List Sent
  pub walks : List Sent
  pub sent : entry.sent ≡ (cells ++ requests) ++ walks
  pub owed : AllZip (IsOwedCell a) (let_through a) cells
  pub asked : AllZip (IsRequest a) (asking a) requests
  pub walk : AreWalks a word walks
  pub summaries : map summary cells ≡ map (owed_cell a) (let_through a)
  pub order : IsStrictlySortedBy owing_cmp (owed_keys a)

-- the tick was refused, and nothing was made or sent
pub record IsRefused (entry : Entry) : Type 0 where
  pub reply : entry.reply ≡ Some (Refused ClockEnd)
  pub made : entry.made ≡ []
  pub none : entry.sent ≡ []

-- a tick is refused exactly where its server's clock is at its end. Of no announced version anybody
-- is asked any more behind one that is not; and it changes nothing else that any server holds
pub record TickSends (stores : ℕ → Store) (server word : ℕ) (step : Step) : Type 0 where
  pub void : step.entry.void ≡ None
  pub sends : HasTime (stores server) → SendsWhatItOwes (stores server) word step.entry
  pub loses : HasTime (stores server) → step.stores server ≡ without_sources (stores server)
  pub refuses : ¬ (HasTime (stores server)) → IsRefused step.entry
  pub stays : ¬ (HasTime (stores server)) → step.stores server ≡ stores server
  pub still : (s : ℕ) → s ≢ server → step.stores s ≡ stores s

-- and a live server sends then just what it owes, what it asks for, and at most one walk
abbrev pub TicksSendWhatIsOwed : ℕ → Type 0
TicksSendWhatIsOwed servers = (events : List Event) (server moment word : ℕ)
    → is_live servers (run servers events) server ≡ true
    → TickSends (run servers events).stores server word
    (next servers (run servers events) (Tick server moment word))

-- ---- a restart

-- a restart loses the wishes and what is noted of versions, and changes nothing else; nothing is
-- made, told or sent
pub record RestartLoses (stores : ℕ → Store) (server : ℕ) (step : Step) : Type 0 where
  pub void : step.entry.void ≡ None
  pub reply : step.entry.reply ≡ None
  pub made : step.entry.made ≡ []
  pub sent : step.entry.sent ≡ []
  pub here : step.stores server ≡ without_volatile (stores server)
  pub still : (s : ℕ) → s ≢ server → step.stores s ≡ stores s

abbrev pub RestartsLoseWishes : ℕ → Type 0
RestartsLoseWishes servers = (events : List Event) (server : ℕ)
    → is_live servers (run servers events) server ≡ true
    → RestartLoses (run servers events).stores server
    (next servers (run servers events) (Restart server))
