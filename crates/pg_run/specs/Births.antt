-- Births: which of them servers gave out, and who names them.
use Rattle.std.specs.Prelude.{ℕ, ◌≡◌, ◌≤◌, ◌⊎◌, ◌++◌, true, false, if◌then◌else◌, Contains, List, Option, None, Some}
use Rattle.std.specs.List.{IsAmong}
use Rattle.pg_base.specs.declared.id.FileId.{FileId}
use Rattle.pg_edges.specs.declared.edge.Edge.{Edge}
use Rattle.pg_edges.specs.Edges.{edge_to, is_listed}
use Rattle.pg_entries.specs.declared.entry.Entry.{Entry}
use Rattle.pg_server.specs.pg_pieces.pg_intent.declared.intent.Intent.TheVariants as intent
use Rattle.pg_server.specs.pg_pieces.pg_intent.declared.key.IntentKey.TheVariants as key
use Rattle.pg_server.specs.pg_pieces.pg_intent.Intents.{intent_at}
use Rattle.pg_server.specs.pg_pieces.pg_msg.declared.message.Ends.{Ends}
use Rattle.pg_server.specs.pg_pieces.pg_msg.declared.message.Message.{Message}
use Rattle.pg_server.specs.pg_pieces.pg_msg.declared.message.Message.TheVariants as message
use Rattle.pg_server.specs.pg_pieces.pg_msg.declared.message.Packet.{Packet}
use Rattle.pg_server.specs.pg_pieces.pg_msg.declared.message.Sent.{Sent}
use Rattle.pg_event.specs.declared.event.Event.{Event}
use Rattle.pg_server.specs.pg_pieces.pg_names.declared.attributes.Attributes.{Attributes}
use Rattle.pg_server.specs.pg_pieces.pg_names.Names.{cell_at, is_dir, own_at}
use Rattle.pg_register.specs.declared.flag.Flag.{Flag}
use Rattle.pg_server.specs.pg_pieces.pg_replica.declared.replica.Replica.{Replica}
use Rattle.pg_server.specs.pg_cells.Cells.{fits}
use Rattle.pg_server.specs.declared.input.Input.TheVariants as input
use Rattle.pg_server.specs.declared.input.Input.{Input}
use Rattle.pg_server.specs.Local.{effect, first_effect, takes_effect}
use Rattle.pg_server.specs.pg_pieces.pg_store.declared.store.Store.{Store}
use Rattle.pg_server.specs.pg_pieces.pg_store.declared.wishes.Wish.{Wish}
use Rattle.pg_server.specs.pg_pieces.pg_store.Births.{is_pending, wish_at}
use Rattle.pg_server.specs.pg_pieces.pg_store.Store.{is_held, replica_at}
use Rattle.pg_server.specs.pg_pieces.pg_store.Together.{BirthsMove, IsOver, birth_at}
use Rattle.pg_run.specs.Journal.{Born, mail}
use Rattle.pg_run.specs.Laws.{AtEach, TakesIn, store_after}
use Rattle.pg_run.specs.Run.{next, run, taking_in}

-- ---- births that a server gave out

-- its replica of the thing has the birth, or one is to come that has it
abbrev pub IsBirthAt : Store → FileId → ℕ → Type 0
IsBirthAt a file birth = ((x : Replica) × (replica_at a file ≡ Some x) × (x.birth ≡ birth))
    ⊎ (is_pending a file birth ≡ true)

-- the server gave out the birth for the thing: at some time of the run its replica had it, or was
-- to have it. A birth may come to nothing: a wish is lost, or a parent is not wanted any more; and
-- the replica may go
pub record WasGivenOut (servers : ℕ) (events : List Event) (file : FileId) (s birth : ℕ)
    : Type 0 where
  pub before : List Event
  pub behind : List Event
  pub split : events ≡ before ++ behind
  pub was : IsBirthAt (store_after servers before s) file birth

-- ---- who names births

-- the births that a message from one server to another names
abbrev pub ends_named : (FileId → ℕ → ℕ → Type 0) → ℕ → ℕ → Ends → Type 0
ends_named P from to ends = P ends.file from ends.sender × P ends.file to ends.receiver

-- this holds of each thing, server and birth that a message names; a walk's origin is named too
abbrev pub AllNamed : (FileId → ℕ → ℕ → Type 0) → ℕ → ℕ → Message → Type 0
AllNamed P from to (message.Cell ends tag c) = ends_named P from to ends
AllNamed P from to (message.Ack ends k tag) = ends_named P from to ends
AllNamed P from to (message.Harbinger ends tag head) = ends_named P from to ends
AllNamed P from to (message.Want ends wanted) = ends_named P from to ends
AllNamed P from to (message.Delta ends delta) = ends_named P from to ends
AllNamed P from to (message.Piece ends piece) = ends_named P from to ends
AllNamed P from to (message.Later ends stamp) = ends_named P from to ends
AllNamed P from to (message.Fetch file birth) = P file from birth
AllNamed P from to (message.Grant ends granted) = ends_named P from to ends
AllNamed P from to (message.NoGrant file birth) = P file to birth
AllNamed P from to (message.Full ends) = ends_named P from to ends
AllNamed P from to (message.Seek file birth) = P file from birth
AllNamed P from to (message.Greet ends why) = ends_named P from to ends
AllNamed P from to (message.NoneHere ask file child) = Unit {0}
AllNamed P from to (message.Gone file birth) = P file from birth
AllNamed P from to (message.Bye ends) = ends_named P from to ends
AllNamed P from to (message.ByeOk file birth) = P file to birth
AllNamed P from to (message.Confirm dir entry) = Unit {0}
AllNamed P from to (message.PlaceIs dir entry) = Unit {0}
AllNamed P from to (message.Tell dir entry) = Unit {0}
AllNamed P from to (message.TellOk dir child stamp) = Unit {0}
AllNamed P from to (message.Leave ends stamp) = ends_named P from to ends
AllNamed P from to (message.LeaveOk ends stamp) = ends_named P from to ends
AllNamed P from to (message.Invite ends) = ends_named P from to ends
AllNamed P from to (message.Walk ends origin birth hops word) =
    ends_named P from to ends × P ends.file origin birth

-- every birth that an edge, a flag or a message ever sent names was given out by its server for
-- that thing, and so was the birth of each version's maker
pub record BirthsWereGivenOut (servers : ℕ) (events : List Event) : Type 0 where
  pub edges : AtEach servers (λ s. (file : FileId) (x : Replica) (e : Edge)
      → replica_at (store_after servers events s) file ≡ Some x → IsAmong x.edges e
      → WasGivenOut servers events file e.peer e.birth)
  pub flags : AtEach servers (λ s. (file : FileId) (own : Attributes) (flag : Flag)
      → own_at (store_after servers events s).names file ≡ Some own → IsAmong own.flags flag
      → WasGivenOut servers events file flag.server flag.birth)
  pub entry_flags : AtEach servers (λ s. (dir child : FileId) (e : Entry) (flag : Flag)
      → cell_at (store_after servers events s).names dir child ≡ Some e → IsAmong e.flags flag
      → WasGivenOut servers events child flag.server flag.birth)
  pub makers : (u : Born) → IsAmong (run servers events).history u
      → WasGivenOut servers events u.made.file u.made.stamp.server u.birth
  pub messages : (m : Sent) → Contains (mail (run servers events).journal) m
      → AllNamed (WasGivenOut servers events) m.packet.from m.to m.packet.message

-- BIRTHS ARE KNOWN: no birth comes from nowhere
abbrev pub BirthsAreKnown : ℕ → Type 0
BirthsAreKnown servers = (events : List Event) → BirthsWereGivenOut servers events

-- ---- one birth at a time

-- Of each thing a server has one birth, of its replica or to come
-- held: what is held has no wish, and its Fill has the birth of the replica
-- once: a wish and a Fill of what is not held do not stand together
-- greatest: whatever it gave out for the thing before is not greater
-- counted: it gave out no birth behind the latest
pub record BirthIsAlone (servers : ℕ) (events : List Event) (s : ℕ) (file : FileId)
    : Type 0 where
  pub held : (x : Replica) → replica_at (store_after servers events s) file ≡ Some x
      → wish_at (store_after servers events s) file ≡ None
  pub filled : (x : Replica) (birth target : ℕ)
      → replica_at (store_after servers events s) file ≡ Some x
      → intent_at (store_after servers events s).intents (key.Fill file)
      ≡ Some (intent.Fill file birth target) → birth ≡ x.birth
  pub once : (wish : Wish) → wish_at (store_after servers events s) file ≡ Some wish
      → intent_at (store_after servers events s).intents (key.Fill file) ≡ None
  pub greatest : (b c : ℕ) → WasGivenOut servers events file s b
      → IsBirthAt (store_after servers events s) file c → b ≤ c
  pub counted : (b : ℕ) → WasGivenOut servers events file s b
      → b ≤ (store_after servers events s).births

abbrev pub BirthsAreAlone : ℕ → Type 0
BirthsAreAlone servers = (events : List Event)
    → AtEach servers (λ s. (file : FileId) → BirthIsAlone servers events s file)

-- births move one way in an event, up to the end of its first effect and behind it
abbrev pub BirthsMoveInEvents : ℕ → Type 0
BirthsMoveInEvents servers = (events : List Event) (event : Event) (s : ℕ) (asked : Input)
    → TakesIn servers (run servers events) event s asked
    → let a = store_after servers events s in
    BirthsMove a (first_effect a asked).store
    × BirthsMove (first_effect a asked).store (effect a asked).store

-- and so after whatever more events: one that is over stays over
abbrev pub BirthsMoveOn : ℕ → Type 0
BirthsMoveOn servers = (events more : List Event) → AtEach servers (λ s.
    BirthsMove (store_after servers events s) (store_after servers (events ++ more) s))

-- each replica is there with its birth, or the thing is not held any more and the birth is over
abbrev pub StaysOrGoes : Store → Store → Type 0
StaysOrGoes a b = (file : FileId) (birth : ℕ) → birth_at a file ≡ Some birth
    → (birth_at b file ≡ Some birth) ⊎ ((is_held b file ≡ false) × IsOver b file birth)

-- so it is within an event, behind its first effect and at its end: what goes in an event does not
-- begin again in it
abbrev pub ReplicasStayOrGo : ℕ → Type 0
ReplicasStayOrGo servers = (events : List Event) (event : Event) (s : ℕ) (asked : Input)
    → TakesIn servers (run servers events) event s asked
    → let a = store_after servers events s in
    StaysOrGoes a (first_effect a asked).store × StaysOrGoes a (effect a asked).store

-- and a birth that was given out for one thing was given out for no other
abbrev pub BirthsAreOfOneThing : ℕ → Type 0
BirthsAreOfOneThing servers = (events : List Event) (s : ℕ) (f g : FileId) (birth : ℕ)
    → WasGivenOut servers events f s birth → WasGivenOut servers events g s birth
    → f ≡ g

-- ---- edges and births

-- an edge to a peer stays, or goes to a greater birth, or goes
pub record EdgesGoUp (a b : Store) : Type 0 where
  pub births : (file : FileId) (x y : Replica) (peer : ℕ) (d e : Edge)
      → replica_at a file ≡ Some x → replica_at b file ≡ Some y
      → edge_to x.edges peer ≡ Some d → edge_to y.edges peer ≡ Some e → d.birth ≤ e.birth
  pub stays : (file : FileId) (x : Replica) → replica_at a file ≡ Some x
      → ((y : Replica) × (replica_at b file ≡ Some y) × (y.birth ≡ x.birth))
      ⊎ IsOver b file x.birth

-- what is held stays held with its birth, or the birth is over; and of two births of a peer the
-- greater has the edge
abbrev pub GreaterBirthsReplaceEdges : ℕ → Type 0
GreaterBirthsReplaceEdges servers = (events : List Event) (event : Event)
    → AtEach servers (λ s. EdgesGoUp ((run servers events).stores s)
    ((next servers (run servers events) event).stores s))

-- the ends of a message that links its sender, where it is accepted
abbrev pub linking : Message → Option Ends
linking (message.Cell ends tag c) = if fits ends.file c then Some ends else None
linking (message.Harbinger ends tag head) = if is_dir ends.file then None else Some ends
linking (message.Grant ends granted) = Some ends
linking (message.Greet ends why) = Some ends
linking (message.Leave ends stamp) = Some ends
linking _ = None

-- the replica with the birth that the message names is here, and its edge to the sender, where it
-- has one, is to no later birth than the sender's that the message names
pub record IsMet (store : Store) (from : ℕ) (ends : Ends) : Type 0 where
  pub replica : Replica
  pub held : replica_at store ends.file ≡ Some replica
  pub birth : replica.birth ≡ ends.receiver
  pub none_later : (e : Edge) → edge_to replica.edges from ≡ Some e → e.birth ≤ ends.sender

-- who hears one that is met so lists the sender from then on, with the birth that the message
-- names: it takes the place of a lesser one
abbrev pub LinksNameTheSender : ℕ → Type 0
LinksNameTheSender servers = (events : List Event) (event : Event) (s : ℕ) (packet : Packet)
    (ends : Ends) (y : Replica)
    → taking_in servers (run servers events) event
    ≡ Some (record { server = s; asked = input.Arrival packet })
    → takes_effect ((run servers events).stores s) (input.Arrival packet) ≡ true
    → linking packet.message ≡ Some ends
    → IsMet ((run servers events).stores s) packet.from ends
    → replica_at ((next servers (run servers events) event).stores s) ends.file ≡ Some y
    → is_listed y.edges packet.from ends.sender ≡ true

-- ---- births that are gone

-- a birth that a server says is gone was given out by it for the thing, and it does not have it
-- now. So it never has it again, as the message stays among what was sent
abbrev pub GoneSays : ℕ → Type 0
GoneSays servers = (events : List Event) (m : Sent) (file : FileId) (birth : ℕ)
    → Contains (mail (run servers events).journal) m → m.packet.message ≡ message.Gone file birth
    → WasGivenOut servers events file m.packet.from birth
    × (IsBirthAt (store_after servers events m.packet.from) file birth → ⊥)
