-- What each event does where replicas go: to edges, Byes and flags. Statements on all runs.
use Rattle.std.specs.Prelude.{ℕ, ◌≡◌, ◌⊎◌, ◌<◌, true, Contains, List, Some}
use Rattle.pg_base.specs.declared.id.FileId.{FileId}
use Rattle.pg_edges.specs.Edges.{is_listed}
use Rattle.pg_event.specs.declared.event.Event.{Event}
use Rattle.pg_server.specs.pg_pieces.pg_intent.declared.intent.Intent.TheVariants as intent
use Rattle.pg_server.specs.pg_pieces.pg_msg.declared.message.Ends.{Ends}
use Rattle.pg_server.specs.pg_pieces.pg_msg.declared.message.Message.TheVariants as message
use Rattle.pg_server.specs.pg_pieces.pg_msg.declared.message.Packet.{Packet}
use Rattle.pg_server.specs.pg_pieces.pg_msg.declared.message.Sent.{Sent}
use Rattle.pg_server.specs.pg_pieces.pg_msg.declared.update.Update.TheVariants as update
use Rattle.pg_register.specs.declared.flag.Flag.{Flag}
use Rattle.pg_register.specs.Flag.{is_removed}
use Rattle.pg_server.specs.pg_pieces.pg_replica.declared.replica.Replica.{Replica}
use Rattle.pg_server.specs.declared.input.Input.{Input}
use Rattle.pg_server.specs.declared.input.Input.TheVariants as input
use Rattle.pg_server.specs.Local.{effect, takes_effect}
use Rattle.pg_server.specs.pg_pieces.pg_store.declared.store.Store.{Store}
use Rattle.pg_server.specs.pg_pieces.pg_store.Seen.{removed_of}
use Rattle.pg_server.specs.pg_pieces.pg_store.Store.{replica_at}
use Rattle.pg_server.specs.pg_pieces.pg_store.Together.{birth_at}
use Rattle.pg_run.specs.Carried.{gone_in}
use Rattle.pg_run.specs.Laws.{TakesIn, store_after}
use Rattle.pg_run.specs.Run.{run}

-- in each event in which a server takes an input: of what it held before, and of the input
abbrev pub InEvents : ℕ → (ℕ → Store → Input → Type 0) → Type 0
InEvents servers P = (events : List Event) (event : Event) (s : ℕ) (asked : Input)
    → TakesIn servers (run servers events) event s asked → P s (store_after servers events s) asked

abbrev pub behind : Store → Input → Store
behind a asked = (effect a asked).store

abbrev pub sent_in : Store → Input → List Sent
sent_in a asked = (effect a asked).out.sent

-- a message comes, and is heard
pub record Hears (a : Store) (asked : Input) (packet : Packet) : Type 0 where
  pub is : asked ≡ input.Arrival packet
  pub heard : takes_effect a asked ≡ true

-- ---- edges

-- a peer said that its replica of this birth is not there, or went
pub record SaysItWent (a : Store) (asked : Input) (file : FileId) (peer birth : ℕ) : Type 0 where
  pub packet : Packet
  pub hears : Hears a asked packet
  pub from : packet.from ≡ peer
  pub says : (packet.message ≡ message.Gone file birth)
      ⊎ ((ends : Ends) × (packet.message ≡ message.Bye ends) × (ends.file ≡ file)
      × (ends.sender ≡ birth))

-- a server is removed in the view in which an event leaves another
abbrev pub IsRemovedBehind : Store → Input → ℕ → Type 0
IsRemovedBehind a asked server = is_removed (removed_of (behind a asked)) server ≡ true

-- an edge stays, or gives way to a greater birth, or its peer said that its replica is not there;
-- or its peer is removed
abbrev pub EdgesGoByWord : ℕ → Type 0
EdgesGoByWord servers = InEvents servers (λ s a asked.
    (file : FileId) (x y : Replica) (peer birth : ℕ) → replica_at a file ≡ Some x
    → replica_at (behind a asked) file ≡ Some y → is_listed x.edges peer birth ≡ true
    → (is_listed y.edges peer birth ≡ true)
    ⊎ (((later : ℕ) × (birth < later) × (is_listed y.edges peer later ≡ true))
    ⊎ (SaysItWent a asked file peer birth ⊎ IsRemovedBehind a asked peer)))

-- a replica is held on, with its birth, but for the one that goes by leave
abbrev pub BirthsEndByLeave : ℕ → Type 0
BirthsEndByLeave servers = InEvents servers (λ s a asked.
    (file : FileId) (birth : ℕ) → birth_at a file ≡ Some birth
    → (birth_at (behind a asked) file ≡ Some birth)
    ⊎ ((takes_effect a asked ≡ true) × (gone_in a asked ≡ Some file)))

-- ---- flags

-- a flag that is made is the server's own, of the birth that it holds then
abbrev pub FlagsAreMadeWhereHeld : ℕ → Type 0
FlagsAreMadeWhereHeld servers = InEvents servers (λ s a asked.
    (file : FileId) (flag : Flag) → Contains (effect a asked).out.made (update.Flag file flag)
    → (flag.server ≡ s) × (birth_at (behind a asked) file ≡ Some flag.birth))

-- ---- Byes

abbrev pub Owes : Store → FileId → ℕ → ℕ → ℕ → Type 0
Owes a file birth peer peer_birth =
    Contains a.intents (intent.Bye file birth peer peer_birth)

-- one begins only of what goes in the event
abbrev pub ByesBeginWhereOneGoes : ℕ → Type 0
ByesBeginWhereOneGoes servers = InEvents servers (λ s a asked.
    (file : FileId) (birth peer peer_birth : ℕ) → Owes (behind a asked) file birth peer peer_birth
    → Owes a file birth peer peer_birth
    ⊎ ((gone_in a asked ≡ Some file) × (birth_at a file ≡ Some birth)))

-- and there, of each edge, where none of that birth was owed before
abbrev pub EachPeerIsTold : ℕ → Type 0
EachPeerIsTold servers = InEvents servers (λ s a asked.
    (file : FileId) (x : Replica) (peer peer_birth : ℕ) → takes_effect a asked ≡ true
    → gone_in a asked ≡ Some file → replica_at a file ≡ Some x
    → is_listed x.edges peer peer_birth ≡ true
    → ((p b : ℕ) → Owes a file x.birth p b → ⊥)
    → Owes (behind a asked) file x.birth peer peer_birth)

-- one ends only by its peer's answer, or where its peer is removed
abbrev pub ByesEndByAnswers : ℕ → Type 0
ByesEndByAnswers servers = InEvents servers (λ s a asked.
    (file : FileId) (birth peer peer_birth : ℕ) → Owes a file birth peer peer_birth
    → Owes (behind a asked) file birth peer peer_birth
    ⊎ (((packet : Packet) × Hears a asked packet × (packet.from ≡ peer)
    × (packet.message ≡ message.ByeOk file birth))
    ⊎ IsRemovedBehind a asked peer))

-- a Bye is sent where it is owed
abbrev pub ByesAreOwed : ℕ → Type 0
ByesAreOwed servers = InEvents servers (λ s a asked.
    (m : Sent) (ends : Ends) → Contains (sent_in a asked) m → m.packet.message ≡ message.Bye ends
    → (m.packet.from ≡ s)
    × Owes (behind a asked) ends.file ends.sender m.to ends.receiver)

-- and answered to who sent it, and then there is no edge to that birth any more
abbrev pub ByesAreAnswered : ℕ → Type 0
ByesAreAnswered servers = InEvents servers (λ s a asked.
    (m : Sent) (file : FileId) (birth : ℕ) → Contains (sent_in a asked) m
    → m.packet.message ≡ message.ByeOk file birth
    → (m.packet.from ≡ s)
    × (packet : Packet) × Hears a asked packet × (packet.from ≡ m.to)
    × ((ends : Ends) × (packet.message ≡ message.Bye ends) × (ends.file ≡ file)
    × (ends.sender ≡ birth))
    × ((y : Replica) → replica_at (behind a asked) file ≡ Some y
    → (is_listed y.edges m.to birth ≡ true → ⊥)))
