-- What is to hold of servers that are not live: those that were removed, and numbers of none.
-- Statements on all runs.
use Rattle.std.specs.Prelude.{[], ℕ, ◌≡◌, ◌≢◌, ◌⊎◌, ◌++◌, false, Contains, List, None, Some}
use Rattle.pg_run.specs.pg_event.declared.entry.Entry.{Entry}
use Rattle.pg_run.specs.pg_event.declared.event.Event.{Event}
use Rattle.pg_run.specs.pg_event.declared.event.Event.TheVariants.{Call, Tick, Deliver, Lose, Repeat, Restart, Remove}
use Rattle.pg_run.specs.pg_msg.declared.message.Sent.{Sent}
use Rattle.pg_run.specs.pg_register.Flag.{is_removed}
use Rattle.pg_run.specs.pg_server.Local.{effect}
use Rattle.pg_run.specs.Journal.{bag, message_at, removals}
use Rattle.pg_run.specs.Run.{Taking, World, effect_entry, is_live, next, run, taking_in, why_void}

-- ---- entries

-- no reply, nothing made, nothing sent
pub record IsSilent (entry : Entry) : Type 0 where
  pub reply : entry.reply ≡ None
  pub made : entry.made ≡ []
  pub sent : entry.sent ≡ []

-- another server takes an input in the event, and all that the entry tells is its effect: each
-- message that is sent is from another
pub record IsOfAnother (servers : ℕ) (w : World) (event : Event) (s : ℕ) : Type 0 where
  pub taking : Taking
  pub takes : taking_in servers w event ≡ Some taking
  pub another : taking.server ≢ s
  pub effect_is : (next servers w event).entry
      ≡ effect_entry event (effect (w.stores taking.server) taking.asked)
  pub from : (m : Sent) → Contains (next servers w event).entry.sent m → m.packet.from ≢ s

-- ---- events

-- a client's call, a tick, a restart, or a removal is at this server
abbrev pub IsAt : ℕ → Event → Type 0
IsAt s (Call server moment call) = server ≡ s
IsAt s (Tick server moment word) = server ≡ s
IsAt s (Deliver number) = ⊥
IsAt s (Lose number) = ⊥
IsAt s (Repeat number) = ⊥
IsAt s (Restart server) = server ≡ s
IsAt s (Remove server) = server ≡ s

-- or a message to it is delivered
abbrev pub Reaches : World → ℕ → Event → Type 0
Reaches w s (Deliver number) =
    (m : Sent) × (message_at (bag w.journal) number ≡ Some m) × (m.to ≡ s)
Reaches w s event = IsAt s event

-- ---- the laws

-- A server that is not live after some events, and what stands after more of them:
-- still: it is not live then
-- store, took, asked: what it holds, what its replicas took, and whom it asked are as they were
-- entries: whatever event comes next, its entry tells of another server's effect, or of none
-- silent: of none, where the event is one at this server, or brings it a message
-- void: and where it is one at this server, it is void
pub record IsAtRest (servers : ℕ) (events more : List Event) (s : ℕ) : Type 0 where
  pub still : is_live servers (run servers (events ++ more)) s ≡ false
  pub store : (run servers (events ++ more)).stores s ≡ (run servers events).stores s
  pub took : (run servers (events ++ more)).took s ≡ (run servers events).took s
  pub asked : (run servers (events ++ more)).asked s ≡ (run servers events).asked s
  pub entries : (event : Event) → IsSilent (next servers (run servers (events ++ more)) event).entry
      ⊎ IsOfAnother servers (run servers (events ++ more)) event s
  pub silent : (event : Event) → Reaches (run servers (events ++ more)) s event
      → IsSilent (next servers (run servers (events ++ more)) event).entry
  pub void : (event : Event) → IsAt s event
      → (next servers (run servers (events ++ more)) event).entry.void ≡ Some (why_void servers s)

-- WHO IS REMOVED RESTS: it takes nothing more, whatever follows, and stays as it was
abbrev pub RemovedServersRest : ℕ → Type 0
RemovedServersRest servers = (events more : List Event) (s : ℕ)
    → is_live servers (run servers events) s ≡ false → IsAtRest servers events more s

-- and no message to it is under way
abbrev pub NoneIsUnderWayToRemoved : ℕ → Type 0
NoneIsUnderWayToRemoved servers = (events : List Event) (m : Sent)
    → Contains (bag (run servers events).journal) m
    → is_removed (removals (run servers events).journal) m.to ≡ false
