-- Views: which servers a server knows to be removed. Statements on all runs.
use Rattle.std.specs.Prelude.{ℕ, ◌≡◌, ◌≢◌, ◌≤◌, ◌++◌, false, true, Contains, List, Some, length, take}
use Rattle.std.specs.List.{IsAmong}
use Rattle.pg_base.specs.declared.id.FileId.{FileId}
use Rattle.pg_edges.specs.declared.edge.Edge.{Edge}
use Rattle.pg_event.specs.declared.event.Event.{Event}
use Rattle.pg_server.specs.pg_pieces.pg_msg.declared.message.Ends.{Ends}
use Rattle.pg_server.specs.pg_pieces.pg_msg.declared.message.Message.TheVariants as message
use Rattle.pg_server.specs.pg_pieces.pg_msg.declared.message.Sent.{Sent}
use Rattle.pg_register.specs.Flag.{is_removed}
use Rattle.pg_server.specs.pg_pieces.pg_replica.declared.replica.Replica.{Replica}
use Rattle.pg_server.specs.pg_pieces.pg_store.declared.store.Store.{Store}
use Rattle.pg_server.specs.pg_pieces.pg_store.declared.wishes.Wish.{Wish}
use Rattle.pg_server.specs.pg_pieces.pg_store.Births.{wish_at}
use Rattle.pg_server.specs.pg_pieces.pg_store.Seen.{removed_of, view_of}
use Rattle.pg_server.specs.pg_pieces.pg_store.Servers.{is_live_other}
use Rattle.pg_server.specs.pg_pieces.pg_store.Store.{replica_at}
use Rattle.pg_run.specs.Going.{InEvents, behind, sent_in}
use Rattle.pg_run.specs.Journal.{mail, removals}
use Rattle.pg_run.specs.Laws.{AtEach, store_after}
use Rattle.pg_run.specs.Run.{World, run}

-- ---- servers

-- front: it knows the first so many removals, in their order
-- own: its own is none of them
-- edges: no edge leads to who is removed in its view
-- wishes: no wish asks one
pub record IsInView (w : World) (s : ℕ) (a : Store) : Type 0 where
  pub front : take (view_of a) (removals w.journal) ≡ removed_of a
  pub within : view_of a ≤ length (removals w.journal)
  pub own : is_removed (removed_of a) s ≡ false
  pub edges : (file : FileId) (x : Replica) (e : Edge) → replica_at a file ≡ Some x
      → IsAmong x.edges e → is_removed (removed_of a) e.peer ≡ false
  pub wishes : (file : FileId) (wish : Wish) → wish_at a file ≡ Some wish → wish.target ≢ 0
      → is_live_other a wish.target ≡ true

-- EACH VIEW IS A FRONT of the removals
abbrev pub ViewsArePrefixes : ℕ → Type 0
ViewsArePrefixes servers = (events : List Event)
    → AtEach servers (λ s. IsInView (run servers events) s (store_after servers events s))

-- ---- messages

-- the servers that are removed in this view
abbrev pub removed_by : World → ℕ → List ℕ
removed_by w view = take view (removals w.journal)

-- who sent a message had its view then, and knows no less now; and it is not removed in that view,
-- nor is a walk's origin
pub record IsOfView (w : World) (m : Sent) : Type 0 where
  pub view : m.packet.view ≤ view_of (w.stores m.packet.from)
  pub sender : is_removed (removed_by w m.packet.view) m.packet.from ≡ false
  pub origin : (ends : Ends) (from birth hops word : ℕ)
      → m.packet.message ≡ message.Walk ends from birth hops word
      → is_removed (removed_by w m.packet.view) from ≡ false

-- EACH MESSAGE IS OF A VIEW that its sender had
abbrev pub MessagesAreOfViews : ℕ → Type 0
MessagesAreOfViews servers = (events : List Event) (m : Sent)
    → Contains (mail (run servers events).journal) m → IsOfView (run servers events) m

-- ---- along runs

-- what is removed in a server's view stays so
abbrev pub ViewsGrow : ℕ → Type 0
ViewsGrow servers = (events more : List Event) → AtEach servers (λ s. (t : ℕ)
    → is_removed (removed_of (store_after servers events s)) t ≡ true
    → is_removed (removed_of (store_after servers (events ++ more) s)) t ≡ true)

-- what a server sends in an event is from it, and of the view in which the event leaves it
abbrev pub MessagesAreSentInView : ℕ → Type 0
MessagesAreSentInView servers = InEvents servers (λ s a asked. (m : Sent)
    → Contains (sent_in a asked) m
    → (m.packet.from ≡ s) × (m.packet.view ≡ view_of (behind a asked)))
