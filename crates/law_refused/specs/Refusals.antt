-- What a call that is refused leaves, in any run.
use Rattle.std.specs.Prelude.{ℕ, ◌≡◌, ◌≢◌, ◌⊎◌, [], ◌∷◌, false, List, None, Some}
use Rattle.pg_run.specs.pg_base.declared.id.FileId.{FileId}
use Rattle.pg_run.specs.pg_call.declared.call.Call.{Call}
use Rattle.pg_run.specs.pg_call.declared.refusal.Refusal.{Refusal}
use Rattle.pg_run.specs.pg_call.declared.refusal.Refusal.TheVariants.{NotYet}
use Rattle.pg_run.specs.pg_call.declared.reply.Reply.TheVariants.{Refused}
use Rattle.pg_run.specs.pg_event.declared.event.Event.{Event}
use Rattle.pg_run.specs.pg_event.declared.event.Event.TheVariants.{Call as Called}
use Rattle.pg_run.specs.pg_lookup.declared.paths.Way.{Way}
use Rattle.pg_run.specs.pg_msg.declared.message.Message.TheVariants.{Fetch}
use Rattle.pg_run.specs.pg_msg.declared.message.Sent.{Sent}
use Rattle.pg_run.specs.pg_store.declared.store.Store.{Store}
use Rattle.pg_run.specs.pg_store.declared.wishes.Wish.{Wish}
use Rattle.pg_run.specs.pg_store.Births.{draw_birth, with_birth, with_wish}
use Rattle.pg_run.specs.pg_store.Store.{is_full}
use Rattle.pg_run.specs.pg_pieces.Posting.{sent_to}
use Rattle.pg_run.specs.Run.{Step, World, next, run}
use Rattle.law_refused.specs.Asked.{IsAskedFirst, IsStanding, NothingStands}

-- ---- what is asked, of a server that held one store and holds another now

-- The thing is asked for already, by its Fill or by the wish for it: the server is as it was, and
-- the Fetch of that is sent, if it has a target. `sent_to` is a message in the server's view
pub record AsksAgain (a b : Store) (file : FileId) (sent : List Sent) : Type 0 where
  pub wish : Wish
  pub stands : IsStanding a file wish
  pub same : b ≡ a
  pub nobody : wish.target ≡ 0 → sent ≡ []
  pub fetch : wish.target ≢ 0 → sent ≡ sent_to a wish.target (Fetch file wish.birth) ∷ []

-- It is not asked for yet. The way by which the call came to it tells who is asked. Where nobody
-- is, the server is as it was, and nothing is sent. Else a wish with a fresh birth is kept, nothing
-- else changes, and its Fetch is sent
pub record AsksFirst (a b : Store) (file : FileId) (sent : List Sent) : Type 0 where
  pub way : Way
  pub target : ℕ
  pub asked : IsAskedFirst a file way target
  pub new : NothingStands a file
  pub nobody : target ≡ 0 → (b ≡ a) × (sent ≡ [])
  pub fetch : target ≢ 0
      → (b ≡ with_wish (with_birth a) file (record { birth = draw_birth a; target = target }))
      × (sent ≡ sent_to a target (Fetch file (draw_birth a)) ∷ [])

-- it is not held and full, and is asked for in one of these ways
pub record AsksFor (a b : Store) (file : FileId) (sent : List Sent) : Type 0 where
  pub missing : is_full a file ≡ false
  pub asks : AsksAgain a b file sent ⊎ AsksFirst a b file sent

-- ---- a refused call

-- The event is not void, nothing was made, and no other server changed. For any reason but `NotYet`
-- the server that was called is as it was too, and nothing was sent. With `NotYet` that thing is
-- asked for, and nothing else changed or was sent
pub record RefusalLeaves (w : World) (server : ℕ) (why : Refusal) (step : Step) : Type 0 where
  pub void : step.entry.void ≡ None
  pub made : step.entry.made ≡ []
  pub still : (s : ℕ) → s ≢ server → step.stores s ≡ w.stores s
  pub other : ((file : FileId) → why ≢ NotYet file)
      → (step.stores server ≡ w.stores server) × (step.entry.sent ≡ [])
  pub missing : (file : FileId) → why ≡ NotYet file
      → AsksFor (w.stores server) (step.stores server) file step.entry.sent

-- wherever a client is told that its call was refused
abbrev pub RefusalsChangeNothing : ℕ → Type 0
RefusalsChangeNothing servers = (events : List Event) (server moment : ℕ) (call : Call)
    (why : Refusal)
    → (next servers (run servers events) (Called server moment call)).entry.reply
    ≡ Some (Refused why)
    → RefusalLeaves (run servers events) server why
    (next servers (run servers events) (Called server moment call))
