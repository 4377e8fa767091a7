-- Which messages link a peer that comes along no edge: who asks for a replica, who seeks, and the
-- origin of a walk that ends. Edges are said by membership, and by no look-up of a peer.
use Rattle.std.specs.Prelude.{ℕ, ◌≡◌, ◌≢◌, ◌≤◌, ◌⊎◌, true, Contains, List, Some, All}
use Rattle.pg_run.specs.pg_base.declared.id.FileId.{FileId}
use Rattle.pg_run.specs.pg_edges.declared.edge.Edge.{Edge}
use Rattle.pg_run.specs.pg_event.declared.event.Event.{Event}
use Rattle.pg_run.specs.pg_msg.declared.message.Ends.{Ends}
use Rattle.pg_run.specs.pg_msg.declared.message.Message.{Message}
use Rattle.pg_run.specs.pg_msg.declared.message.Message.TheVariants as message
use Rattle.pg_run.specs.pg_msg.declared.message.Packet.{Packet}
use Rattle.pg_run.specs.pg_replica.declared.replica.Replica.{Replica}
use Rattle.pg_run.specs.pg_server.declared.input.Input.TheVariants as input
use Rattle.pg_run.specs.pg_server.Local.{takes_effect}
use Rattle.pg_run.specs.pg_store.declared.store.Store.{Store}
use Rattle.pg_run.specs.pg_store.Seen.{server_of}
use Rattle.pg_run.specs.pg_store.Store.{is_full, is_held, replica_at}
use Rattle.pg_run.specs.Run.{next, run, taking_in}

-- a birth of a peer, to be linked to the replica of a thing
pub record LinkTo : Type 0 where
  pub file : FileId
  pub peer : ℕ
  pub birth : ℕ

-- an edge names this birth of the peer
abbrev pub Names : Edge → ℕ → ℕ → Type 0
Names edge peer birth = (edge.peer ≡ peer) × (edge.birth ≡ birth)

-- a message of a server comes along an edge that is there: the replica here has the birth that the
-- message names, and one of its edges names the sender's
pub record ComesAlong (a : Store) (from : ℕ) (ends : Ends) : Type 0 where
  pub replica : Replica
  pub held : replica_at a ends.file ≡ Some replica
  pub birth : replica.birth ≡ ends.receiver
  pub edge : Edge
  pub there : Contains replica.edges edge
  pub names : Names edge from ends.sender

-- no edge of the thing is to a later birth of the peer
abbrev pub NoneIsLater : Store → LinkTo → Type 0
NoneIsLater a l = (replica : Replica) → replica_at a l.file ≡ Some replica
    → (edge : Edge) → Contains replica.edges edge → edge.peer ≡ l.peer → edge.birth ≤ l.birth

-- a walk ends with who takes it: it has made its last step, or there is no edge but those to its
-- sender and to its origin
abbrev pub IsWalkEnd : ℕ → ℕ → ℕ → List Edge → Type 0
IsWalkEnd hops from origin edges = (hops ≤ 1)
    ⊎ All (λ (e : Edge). (e.peer ≡ from) ⊎ (e.peer ≡ origin)) edges

-- what a message from a server links at one that holds this: a Fetch of what is full, and a Seek of
-- what is held, the sender, with the birth for which is asked; and a walk that comes along an edge
-- and ends, away from its origin, its origin
abbrev pub IsLinkedBy : Store → ℕ → LinkTo → Message → Type 0
IsLinkedBy a from l (message.Fetch file birth) =
    (l ≡ record { file = file; peer = from; birth = birth }) × (is_full a file ≡ true)
IsLinkedBy a from l (message.Seek file birth) =
    (l ≡ record { file = file; peer = from; birth = birth }) × (is_held a file ≡ true)
IsLinkedBy a from l (message.Walk ends origin birth hops word) =
    (l ≡ record { file = ends.file; peer = origin; birth = birth })
    × (along : ComesAlong a from ends) × (origin ≢ server_of a)
    × IsWalkEnd hops from origin along.replica.edges
IsLinkedBy a from l _ = ⊥

-- the thing is held, and an edge names the birth of the peer
abbrev pub IsLinkedAt : Store → LinkTo → Type 0
IsLinkedAt b l = (y : Replica) × (replica_at b l.file ≡ Some y)
    × (edge : Edge) × Contains y.edges edge × Names edge l.peer l.birth

-- who hears one of these, and lists the peer with no later birth, lists it with this one behind the
-- event
abbrev pub AsksLinkTheAsker : ℕ → Type 0
AsksLinkTheAsker servers = (events : List Event) (event : Event) (s : ℕ) (packet : Packet)
    (l : LinkTo) → let w = run servers events in
    taking_in servers w event ≡ Some (record { server = s; asked = input.Arrival packet })
    → takes_effect (w.stores s) (input.Arrival packet) ≡ true
    → IsLinkedBy (w.stores s) packet.from l packet.message
    → NoneIsLater (w.stores s) l
    → IsLinkedAt ((next servers w event).stores s) l
