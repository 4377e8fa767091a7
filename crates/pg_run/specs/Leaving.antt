-- Replicas that go: what their peers know of them, and what is left of what they had. Statements on
-- all runs.
use Rattle.std.specs.Prelude.{ℕ, ◌≡◌, ◌≢◌, ◌≤◌, ◌⊎◌, ◌++◌, ◌∷◌, true, false, Contains, List, None, Some}
use Rattle.std.specs.List.{IsAmong}
use Rattle.pg_base.specs.declared.id.FileId.{FileId}
use Rattle.pg_base.specs.declared.stamp.Stamp.{Stamp}
use Rattle.pg_content.specs.Content.{Among}
use Rattle.pg_edges.specs.declared.edge.Edge.{Edge}
use Rattle.pg_edges.specs.declared.key.Key.{Key}
use Rattle.pg_edges.specs.Keys.{tag_in}
use Rattle.pg_entries.specs.declared.cell.Cell.{Cell}
use Rattle.pg_event.specs.declared.event.Event.{Event}
use Rattle.theory_flood.specs.Server as flooding
use Rattle.pg_server.specs.pg_pieces.pg_house.Passing.{is_update}
use Rattle.pg_server.specs.pg_pieces.pg_intent.declared.intent.Intent.TheVariants as intent
use Rattle.pg_server.specs.pg_pieces.pg_msg.declared.message.Ends.{Ends}
use Rattle.pg_server.specs.pg_pieces.pg_msg.declared.message.Message.TheVariants as message
use Rattle.pg_server.specs.pg_pieces.pg_msg.declared.message.Packet.{Packet}
use Rattle.pg_server.specs.pg_pieces.pg_msg.declared.message.Sent.{Sent}
use Rattle.theory_flood_pieces.specs.UpTo.{IsUpTo}
use Rattle.pg_register.specs.declared.flag.Flag.{Flag}
use Rattle.pg_register.specs.Flag.{is_removed}
use Rattle.pg_server.specs.pg_pieces.pg_replica.declared.replica.Replica.{Replica}
use Rattle.pg_server.specs.declared.input.Input.TheVariants as input
use Rattle.pg_server.specs.Local.{takes_effect}
use Rattle.pg_server.specs.pg_pieces.pg_store.declared.store.Store.{Store}
use Rattle.pg_server.specs.pg_pieces.pg_store.Cells.{cell_at}
use Rattle.pg_server.specs.pg_pieces.pg_store.Seen.{removed_of}
use Rattle.pg_server.specs.pg_pieces.pg_store.Store.{replica_at}
use Rattle.pg_server.specs.pg_pieces.pg_store.Together.{IsOver}
use Rattle.pg_run.specs.Carried.{gone_in}
use Rattle.pg_run.specs.Graphs.{HasEdge, Holds}
use Rattle.pg_run.specs.Journal.{mail}
use Rattle.pg_run.specs.Laws.{AtEach, TakesIn, store_after}
use Rattle.pg_run.specs.Passed.{has_cell}
use Rattle.pg_run.specs.Run.{World, run}
use Rattle.pg_run.specs.State.{versions_taken}
use Rattle.pg_run.specs.Took.{Taker, flags_in, flags_taken, place_in, places_taken}
use Rattle.pg_run.specs.Took.Taker.{InDir, Itself}

-- ---- edges to what went

-- an edge of a server's replica of a thing
pub record IsEdgeOf (a : Store) (file : FileId) (x : Replica) (e : Edge) : Type 0 where
  pub is : replica_at a file ≡ Some x
  pub among : IsAmong x.edges e

-- it is heard: the peer has acknowledged some key on it
pub record IsHeard (a : Store) (file : FileId) (e : Edge) : Type 0 where
  pub key : Key
  pub cell : Cell
  pub is : cell_at a file key ≡ Some cell
  pub acknowledged : tag_in e.keys key ≡ None

-- the peer's birth is over, and the peer owes a Bye to this replica of server s
pub record OwesBye (w : World) (s : ℕ) (file : FileId) (x : Replica) (e : Edge) : Type 0 where
  pub over : IsOver (w.stores e.peer) file e.birth
  pub owed : IsAmong (w.stores e.peer).intents (intent.Bye file e.birth s x.birth)

-- HEARD EDGES ARE KNOWN: a heard edge is named back, or its peer's replica went and a Bye is owed;
-- but where the server is removed in its peer's view
abbrev pub HeardEdgesAreKnown : ℕ → Type 0
HeardEdgesAreKnown servers = (events : List Event) → AtEach servers (λ s.
    (file : FileId) (x : Replica) (e : Edge)
    → IsEdgeOf (store_after servers events s) file x e
    → IsHeard (store_after servers events s) file e
    → is_removed (removed_of (store_after servers events e.peer)) s ≡ false
    → HasEdge (run servers events) file s e.peer ⊎ OwesBye (run servers events) s file x e)

-- a Bye is owed of a birth that is over
abbrev pub ByesAreOfOver : ℕ → Type 0
ByesAreOfOver servers = (events : List Event) → AtEach servers (λ s.
    (file : FileId) (birth peer peer_birth : ℕ)
    → IsAmong (store_after servers events s).intents (intent.Bye file birth peer peer_birth)
    → IsOver (store_after servers events s) file birth)

-- whoever sent a Bye, or was told in a ByeOk that it was heard, has its birth behind it
abbrev pub ByesAreOver : ℕ → Type 0
ByesAreOver servers = (events : List Event) (m : Sent)
    → Contains (mail (run servers events).journal) m
    → ((ends : Ends) → m.packet.message ≡ message.Bye ends
    → IsOver (store_after servers events m.packet.from) ends.file ends.sender)
    × ((file : FileId) (birth : ℕ) → m.packet.message ≡ message.ByeOk file birth
    → IsOver (store_after servers events m.to) file birth)

-- ---- safe drop

-- a replica goes at a server in the event behind these, with the leave that came from another
pub record Goes (servers : ℕ) (events : List Event) (event : Event) (s : ℕ) (file : FileId)
    (from : ℕ) : Type 0 where
  pub packet : Packet
  pub takes : TakesIn servers (run servers events) event s (input.Arrival packet)
  pub heard : takes_effect (store_after servers events s) (input.Arrival packet) ≡ true
  pub gone : gone_in (store_after servers events s) (input.Arrival packet) ≡ Some file
  pub sender : packet.from ≡ from

-- a server's replica of a thing went in one of these events, and this is how it stood before that
pub record Went (servers : ℕ) (events : List Event) (s : ℕ) (file : FileId) (x : Replica)
    : Type 0 where
  pub before : List Event
  pub event : Event
  pub behind : List Event
  pub split : events ≡ before ++ event ∷ behind
  pub from : ℕ
  pub goes : Goes servers before event s file from
  pub stood : replica_at (store_after servers before s) file ≡ Some x

-- WHAT WENT IS OVER
abbrev pub WhatWentIsOver : ℕ → Type 0
WhatWentIsOver servers = (events : List Event) (s : ℕ) (file : FileId) (x : Replica)
    → Went servers events s file x → IsOver (store_after servers events s) file x.birth

-- what a taker of one server comes to of a thing, the same taker of another took
pub record TookAllOf (w : World) (s t : ℕ) (by : Taker) (thing : FileId) : Type 0 where
  pub place : is_update (place_in by thing (w.took s)) ≡ true
      → Contains (places_taken by thing (w.took t)) (place_in by thing (w.took s))
  pub flags : (flag : Flag) → Contains (flags_in by thing (w.took s)) flag
      → Contains (flags_taken by thing (w.took t)) flag

-- the replica of server t took every update of the state of that of server s: place, flags, the
-- entries that it has, and the versions with their ancestors
pub record TookTheState (w : World) (file : FileId) (s t : ℕ) : Type 0 where
  pub own : TookAllOf w s t Itself file
  pub entries : (child : FileId) → has_cell file child (w.took s) ≡ true
      → TookAllOf w s t (InDir file) child
  pub versions : (stamp : Stamp) → Among stamp (versions_taken file w.history (w.took s))
      → Among stamp (versions_taken file w.history (w.took t))

-- SAFE DROP: where a replica goes, who gave it leave is not removed in the server's view, holds the
-- thing, and took all that its state comes to. What a removed server holds and took is as it was at
-- its removal
abbrev pub DropsAreSafe : ℕ → Type 0
DropsAreSafe servers = (events : List Event) (event : Event) (s from : ℕ) (file : FileId)
    → Goes servers events event s file from
    → (from ≢ s) × (is_removed (removed_of (store_after servers events s)) from ≡ false)
    × Holds (run servers events) file from
    × TookTheState (run servers events) file s from

-- server t holds the thing with this birth, and has every cell that server s has of it, or one that
-- tells more
pub record HasEachCell (w : World) (s : ℕ) (file : FileId) (t birth : ℕ) : Type 0 where
  pub replica : Replica
  pub held : replica_at (w.stores t) file ≡ Some replica
  pub born : replica.birth ≡ birth
  pub all : (k : Key) (c : Cell) → cell_at (w.stores s) file k ≡ Some c
      → flooding.Holds IsUpTo (cell_at (w.stores t) file) c

-- WHO GIVES LEAVE HAS EACH CELL: where a replica goes, who gave it leave is another server of the
-- run, holds the thing with the birth that it named, and has every cell of the replica that goes
abbrev pub GiversHaveEachCell : ℕ → Type 0
GiversHaveEachCell servers = (events : List Event) (event : Event) (s from : ℕ) (file : FileId)
    (ends : Ends) (stamp : Stamp) → (goes : Goes servers events event s file from)
    → goes.packet.message ≡ message.LeaveOk ends stamp
    → (from ≢ s) × (1 ≤ from) × (from ≤ servers)
    × HasEachCell (run servers events) s file from ends.sender
