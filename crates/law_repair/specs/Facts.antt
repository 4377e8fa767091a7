-- What each event does to full replicas, to gold ones, and of whom it says that they are full:
-- statements on all runs.
use Rattle.std.specs.Prelude.{ℕ, ◌≡◌, ◌⊎◌, true, false, Contains, None, Some}
use Rattle.std.specs.List.{IsAmong}
use Rattle.pg_run.specs.pg_base.declared.id.FileId.{FileId}
use Rattle.pg_run.specs.pg_base.declared.id.Kind.{Kind}
use Rattle.pg_run.specs.pg_call.declared.call.Call.TheVariants as call
use Rattle.pg_run.specs.pg_call.declared.reply.Reply.TheVariants as reply
use Rattle.pg_run.specs.pg_edges.declared.edge.Edge.{Edge}
use Rattle.pg_run.specs.pg_edges.declared.key.Key.{Key}
use Rattle.pg_run.specs.pg_edges.Keys.{tag_in}
use Rattle.pg_run.specs.pg_msg.declared.message.Ends.{Ends}
use Rattle.pg_run.specs.pg_msg.declared.message.Message.TheVariants as message
use Rattle.pg_run.specs.pg_msg.declared.message.Packet.{Packet}
use Rattle.pg_run.specs.pg_msg.declared.message.Sent.{Sent}
use Rattle.pg_run.specs.pg_msg.declared.update.Update.TheVariants as update
use Rattle.pg_run.specs.pg_register.declared.flag.Flag.{Flag}
use Rattle.pg_run.specs.pg_replica.declared.replica.Replica.{Replica}
use Rattle.pg_run.specs.pg_pieces.Golds.{is_gold}
use Rattle.pg_run.specs.pg_calls.Naming.{next_id}
use Rattle.pg_run.specs.pg_server.declared.input.Input.{Input}
use Rattle.pg_run.specs.pg_server.declared.input.Input.TheVariants as input
use Rattle.pg_run.specs.pg_server.Local.{effect, reply_to}
use Rattle.pg_run.specs.pg_store.declared.store.Store.{Store}
use Rattle.pg_run.specs.pg_store.Store.{is_full, replica_at}
use Rattle.pg_run.specs.pg_store.Together.{birth_at}
use Rattle.pg_run.specs.Going.{InEvents, behind, sent_in}

-- ---- what becomes full

-- a message comes that says so of the replica that is held
pub record TellsFull (a : Store) (asked : Input) (file : FileId) : Type 0 where
  pub packet : Packet
  pub is : asked ≡ input.Arrival packet
  pub ends : Ends
  pub says : packet.message ≡ message.Full ends
  pub file_is : ends.file ≡ file
  pub born : birth_at a file ≡ Some ends.receiver

-- the thing has the id that is given out next
abbrev pub MakesIt : Store → FileId → Type 0
MakesIt a file = (kind : Kind) × (file ≡ next_id a kind)

-- the thing is forgotten
pub record ForgetsIt (a : Store) (asked : Input) (file : FileId) : Type 0 where
  pub moment : ℕ
  pub is : asked ≡ input.Call moment (call.Forget file)
  pub done : reply_to a asked ≡ Some reply.Done

-- WHAT BECOMES FULL is told so, or made, or forgotten
abbrev pub FullBegins : ℕ → Type 0
FullBegins servers = InEvents servers (λ s a asked. (file : FileId)
    → is_full (behind a asked) file ≡ true
    → (is_full a file ≡ true) ⊎ TellsFull a asked file ⊎ MakesIt a file
    ⊎ ForgetsIt a asked file)

-- what is full stays so, as long as its replica is held
abbrev pub FullStays : ℕ → Type 0
FullStays servers = InEvents servers (λ s a asked. (file : FileId) (birth : ℕ)
    → is_full a file ≡ true → birth_at a file ≡ Some birth
    → birth_at (behind a asked) file ≡ Some birth → is_full (behind a asked) file ≡ true)

-- ---- who is said to be full

-- an edge of a replica, on which nothing is unacknowledged
pub record IsCleanEdge (a : Store) (file : FileId) (peer birth : ℕ) : Type 0 where
  pub replica : Replica
  pub edge : Edge
  pub is : replica_at a file ≡ Some replica
  pub among : IsAmong replica.edges edge
  pub peer_is : edge.peer ≡ peer
  pub birth_is : edge.birth ≡ birth
  pub none : (k : Key) → tag_in edge.keys k ≡ None

-- FULL IS SAID by what was full before, and to whom had acknowledged all
abbrev pub FullIsSaid : ℕ → Type 0
FullIsSaid servers = InEvents servers (λ s a asked. (m : Sent) (ends : Ends)
    → Contains (sent_in a asked) m → m.packet.message ≡ message.Full ends
    → (is_full a ends.file ≡ true) × IsCleanEdge a ends.file m.to ends.receiver)

-- ---- gold ones

-- WHAT IS GOLD RAISES NO FLAG: of a full gold replica no raised flag is made
abbrev pub GoldsRaiseNone : ℕ → Type 0
GoldsRaiseNone servers = InEvents servers (λ s a asked. (file : FileId) (flag : Flag)
    → is_full a file ≡ true → is_gold a file ≡ true
    → Contains (effect a asked).out.made (update.Flag file flag) → flag.raised ≡ false)
