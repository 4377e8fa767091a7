-- Bodies on demand: who hears of a version first asks for its body, and tells the others of it;
-- bytes of bodies go only to who asked for them; and one server is asked at a time.
use Rattle.std.specs.Prelude.{ℕ, ◌≡◌, ◌<◌, ◌⊎◌, ◌==◌, Bool, true, false, not, List, [], ◌∷◌, ◌++◌, length, Contains, Option, None, Some}
use Rattle.std.specs.List.{All, AllZip, filter}
use Rattle.pg_base.specs.declared.head.Head.{Head}
use Rattle.pg_base.specs.declared.id.FileId.{FileId}
use Rattle.pg_base.specs.declared.stamp.Stamp.{Stamp}
use Rattle.pg_base.specs.Version.{actor_of}
use Rattle.pg_announced.specs.Announced.{is_awaited, key_at, note_at}
use Rattle.pg_content.specs.Content.{is_covered}
use Rattle.pg_delta.specs.Kept.{bytes_of}
use Rattle.pg_edges.specs.declared.edge.Edge.{Edge}
use Rattle.pg_edges.specs.declared.key.Key.{Key}
use Rattle.pg_entries.specs.declared.cell.Cell.TheVariants as cell
use Rattle.pg_event.specs.declared.event.Event.{Event}
use Rattle.pg_event.specs.declared.quiet.OwedKey.{OwedKey}
use Rattle.pg_server.specs.pg_pieces.pg_intent.declared.intent.Intent.TheVariants as intent
use Rattle.pg_server.specs.pg_pieces.pg_intent.declared.key.IntentKey.TheVariants as intent_key
use Rattle.pg_server.specs.pg_pieces.pg_intent.Intents.{intent_at, stands}
use Rattle.pg_server.specs.pg_pieces.pg_msg.declared.message.Ends.{Ends}
use Rattle.pg_server.specs.pg_pieces.pg_msg.declared.message.Message.{Message}
use Rattle.pg_server.specs.pg_pieces.pg_msg.declared.message.Message.TheVariants as message
use Rattle.pg_server.specs.pg_pieces.pg_msg.declared.message.Packet.{Packet}
use Rattle.pg_server.specs.pg_pieces.pg_msg.declared.message.Sent.{Sent}
use Rattle.pg_server.specs.pg_pieces.pg_msg.declared.message.Wanted.{Wanted}
use Rattle.pg_server.specs.pg_pieces.pg_msg.Ends.{back}
use Rattle.pg_server.specs.pg_pieces.pg_names.Names.{is_dir}
use Rattle.pg_server.specs.declared.input.Input.TheVariants as input
use Rattle.pg_server.specs.pg_graph.Walks.{edges_of}
use Rattle.pg_server.specs.pg_pieces.declared.accepting.EdgeUse.TheVariants as manner
use Rattle.pg_server.specs.pg_pieces.Accepting.{ends_to, is_accepted}
use Rattle.pg_server.specs.pg_pieces.Posting.{sent_to}
use Rattle.pg_server.specs.pg_transfer.Asking.{listed}
use Rattle.pg_server.specs.Local.{is_heard}
use Rattle.pg_server.specs.pg_pieces.pg_store.declared.store.Store.{Store}
use Rattle.pg_server.specs.pg_pieces.pg_store.Links.{is_new_link}
use Rattle.pg_server.specs.pg_pieces.pg_store.Seen.{server_of}
use Rattle.pg_server.specs.pg_pieces.pg_store.Store.{content_of}
use Rattle.theory_bodies.specs.Asked.{Asking}
use Rattle.pg_run.specs.Asking.{wanted_by}
use Rattle.pg_run.specs.Run.{World, next, run, taking_in}
use Rattle.pg_run.specs.Ticks.{IsOwedCell, IsRequest}

-- ---- the first harbinger

-- a harbinger of a version comes to server s and is accepted: the version is neither covered there
-- nor announced, and no announced version covers it for which another server than the sender is
-- asked
pub record HearsFirst (servers : ℕ) (w : World) (event : Event) (s from : ℕ) (ends : Ends)
    (head : Head) : Type 0 where
  pub packet : Packet
  pub takes : taking_in servers w event
      ≡ Some (record { server = s; asked = input.Arrival packet })
  pub sender : packet.from ≡ from
  pub tag : ℕ
  pub is : packet.message ≡ message.Harbinger ends tag head
  pub heard : is_heard (w.stores s) packet ≡ true
  pub file : is_dir ends.file ≡ false
  pub accepted : is_accepted (w.stores s) from manner.Makes ends ≡ true
  pub uncovered : is_covered (content_of (w.stores s) ends.file).heads (actor_of head) head.number
      ≡ false
  pub unannounced : note_at (w.stores s).announced (key_at ends.file head.stamp) ≡ None
  pub unawaited : is_awaited (w.stores s).announced ends.file from head ≡ false

-- the sender is asked for all of the body, and told the heads that are here
abbrev pub want_first : Store → ℕ → Ends → Head → Sent
want_first a from ends head = sent_to a from (message.Want (back ends)
    (record { stamp = head.stamp; offset = 0; heads = listed a ends.file }))

-- the peer of an edge is told of the version, under no tag
abbrev pub IsHeardBy : Store → FileId → Head → Edge → Sent → Type 0
IsHeardBy a file head e m =
    m ≡ sent_to a e.peer (message.Harbinger (ends_to a file e.birth) 0 head)

-- the edges of a file to others than this server
abbrev pub edges_beside : Store → FileId → ℕ → List Edge
edges_beside a file from = filter (λ e. not (e.peer == from)) (edges_of a file)

-- what is told of one key along the edge to the server, under the tag that the key has there
abbrev pub IsOfLink : Store → ℕ → FileId → Sent → Type 0
IsOfLink a from file m = (k : Key) × IsOwedCell a
    (record { server = server_of a; peer = from; file = file; key = k }) m

-- a Seek of the file began, and this is its message
pub record IsSeekBegun (a b : Store) (file : FileId) (m : Sent) : Type 0 where
  pub target : ℕ
  pub new : stands a.intents (intent_key.Seek file) ≡ false
  pub begun : intent_at b.intents (intent_key.Seek file) ≡ Some (intent.Seek file target)
  pub whole : IsRequest b (intent.Seek file target) m

-- A server that held a, and behind the event holds b, sends then: one Want to the sender; one
-- harbinger under no tag to each other peer; and besides only what tells of keys that the link
-- touched, where it made an edge, and the message of a Seek that began by the link
pub record SendsFirst (a b : Store) (from : ℕ) (ends : Ends) (head : Head) (sent : List Sent)
    : Type 0 where
  pub told : List Sent
  pub keys : List Sent
  pub seeks : List Sent
  pub sends : sent ≡ (want_first b from ends head ∷ told) ++ (keys ++ seeks)
  pub tells : AllZip (IsHeardBy b ends.file head) (edges_beside b ends.file from) told
  pub of_link : All (IsOfLink b from ends.file) keys
  pub seeking : (seeks ≡ []) ⊎ ((m : Sent) × (seeks ≡ m ∷ []) × IsSeekBegun a b ends.file m)
  pub linked : is_new_link a ends.file from ends.sender ≡ false → (keys ≡ []) × (seeks ≡ [])

abbrev pub FirstHarbingersAsk : ℕ → Type 0
FirstHarbingersAsk servers = (events : List Event) (event : Event) (s from : ℕ) (ends : Ends)
    (head : Head) → let w = run servers events in
    HearsFirst servers w event s from ends head
    → SendsFirst (w.stores s) ((next servers w event).stores s) from ends head
    (next servers w event).entry.sent

-- ---- bytes of bodies

-- how many bytes of a version's body a message holds
abbrev pub body_bytes : Message → ℕ
body_bytes (message.Cell ends tag (cell.Version v)) = length v.body
body_bytes (message.Delta ends d) = bytes_of d.ranges
body_bytes (message.Piece ends p) = length p.bytes
body_bytes _ = 0

-- the version of whose body it holds bytes, or a change
abbrev pub IsOfBody : FileId → Stamp → Message → Type 0
IsOfBody file stamp (message.Delta ends d) = (ends.file ≡ file) × (d.head.stamp ≡ stamp)
IsOfBody file stamp (message.Piece ends p) = (ends.file ≡ file) × (p.head.stamp ≡ stamp)
IsOfBody file stamp _ = ⊥

-- a Want for the version comes in the event, and the message goes to its sender
pub record AnswersWant (servers : ℕ) (w : World) (event : Event) (m : Sent) : Type 0 where
  pub packet : Packet
  pub takes : taking_in servers w event
      ≡ Some (record { server = m.packet.from; asked = input.Arrival packet })
  pub ends : Ends
  pub wanted : Wanted
  pub is : packet.message ≡ message.Want ends wanted
  pub asker : m.to ≡ packet.from
  pub of : IsOfBody ends.file wanted.stamp m.packet.message

-- more than 1,024 bytes of a body go only to who asked for that body
abbrev pub BodiesAnswerWants : ℕ → Type 0
BodiesAnswerWants servers = (events : List Event) (event : Event) (m : Sent)
    → let w = run servers events in
    Contains (next servers w event).entry.sent m → 1024 < body_bytes m.packet.message
    → AnswersWant servers w event m

-- ---- one server is asked

-- while the last Want of a server for a version counts, it sends none for it to another server
abbrev pub OneIsAskedAtATime : ℕ → Type 0
OneIsAskedAtATime servers = (events : List Event) (event : Event) (m : Sent) (file : FileId)
    (stamp : Stamp) (t u : Asking) → let w = run servers events in
    Contains (next servers w event).entry.sent m → wanted_by file stamp m ≡ Some u
    → w.asked m.packet.from file stamp ≡ Some t → u.target ≡ t.target

-- ---- all

pub record AreBodiesOnDemand (servers : ℕ) : Type 0 where
  pub first : FirstHarbingersAsk servers
  pub answers : BodiesAnswerWants servers
  pub one : OneIsAskedAtATime servers
