-- The program's servers and messages are those of a world.
use Rattle.std.specs.Prelude.{ℕ, ◌≡◌, ◌==◌, ◌+◌, ◌-◌, ◌<◌, ◌&&◌, ◌++◌, Bool, not, if◌then◌else◌, List, [], ◌∷◌, Option, None, Some, length, slice_get, slice_index_or}
use Rattle.pg_call.specs.declared.call.Call.{Call}
use Rattle.pg_event.specs.declared.event.Event.{Event}
use Rattle.pg_event.specs.declared.entry.Entry.{Entry}
use Rattle.pg_event.specs.declared.entry.VoidCause.{VoidCause}
use Rattle.pg_event.specs.declared.entry.VoidCause.TheVariants.{Last, Unremoved}
use Rattle.pg_event.specs.declared.quiet.Cause.{Cause}
use Rattle.pg_run.specs.theory_flood.World.{after}
use Rattle.pg_msg.specs.declared.message.Sent.{Sent}
use Rattle.pg_register.specs.Flag.{is_removed}
use Rattle.pg_server.specs.declared.input.Input.{Input}
use Rattle.pg_server.specs.declared.server.Server.{Server}
use Rattle.pg_server.specs.Local.{effect}
use Rattle.pg_store.specs.declared.store.Store.{Store}
use Rattle.pg_run.specs.Journal.{bag, bag_after, removals, removed_in, to_live}
use Rattle.pg_run.specs.Quiet.{of_live}
use Rattle.pg_run.specs.Run.{Step, World, next, world_after, effect_entry, effect_step, idle_step, is_due, is_live, is_server, why_void}
use Rattle.pg_world.specs.declared.machine.Machine.{Machine}

abbrev pub EachStands : List Server → (ℕ → Store) → Type 0
EachStands servers stores =
    (k : ℕ) (d : Server) → k < length servers
    → (slice_index_or servers k d).store ≡ stores (k + 1)

pub record Stands (machine : Machine) (w : World) : Type 0 where
  pub each : EachStands machine.servers.items w.stores
  pub removed : machine.removed ≡ removals w.journal
  pub bag : machine.bag ≡ bag w.journal

-- ---- removed servers

-- a server of a run with so many that is none of these
abbrev pub lives : ℕ → List ℕ → ℕ → Bool
lives servers removed server = is_server servers server && not (is_removed removed server)

-- why nothing happens at it, if nothing does
abbrev pub void_at : ℕ → List ℕ → ℕ → Option VoidCause
void_at servers removed server =
    if lives servers removed server then None else Some (why_void servers server)

-- the removal of this number, counted from 1
abbrev pub removal_at : List ℕ → ℕ → Option ℕ
removal_at removed number = if number == 0 then None else slice_get removed (number - 1)

-- why a call to a live server is void, if it is
abbrev pub void_giveup : List ℕ → Call → Option VoidCause
void_giveup removed call = if is_due removed call then None else Some Unremoved

abbrev pub void_or : Option VoidCause → Option VoidCause → Option VoidCause
void_or None other = other
void_or (Some cause) other = Some cause

-- why a call is, and why a removal is
abbrev pub void_call : ℕ → List ℕ → ℕ → Call → Option VoidCause
void_call servers removed server call =
    void_or (void_at servers removed server) (void_giveup removed call)

abbrev pub void_removal : ℕ → List ℕ → ℕ → Option VoidCause
void_removal servers removed server = void_or (void_at servers removed server)
    (if length removed + 1 == servers then Some Last else None)

-- a message goes to the bag, unless it is to who is removed
abbrev pub unless_removed : List ℕ → Sent → List Sent
unless_removed removed m = if is_removed removed m.to then [] else m ∷ []

-- and stays there, unless it is to this server
abbrev pub unless_to : ℕ → Sent → List Sent
unless_to server m = if m.to == server then [] else m ∷ []

-- ---- an event

-- behind it the machine stands for the world behind it
abbrev pub StandsBehind : Machine → Machine → Event → Type 0
StandsBehind old new event =
    (w : World) → Stands old w
    → Stands new (world_after w (next (length old.servers.items) w event))

-- its entry is what the world's journal says of it
abbrev pub IsEntryOf : Machine → Event → Entry → Type 0
IsEntryOf machine event entry =
    (w : World) → Stands machine w → entry ≡ (next (length machine.servers.items) w event).entry

-- ---- an input of one server

-- behind it that server holds what the input makes of what it held
abbrev pub EachStandsBehind : Machine → Machine → ℕ → Input → Type 0
EachStandsBehind old new server input =
    (stores : ℕ → Store) → EachStands old.servers.items stores
    → EachStands new.servers.items (after stores server (effect (stores server) input).store)

-- what it sends is behind the messages that were under way, but for what is to who is removed
abbrev pub BagBehind : Machine → Machine → ℕ → Input → Type 0
BagBehind old new server input =
    (stores : ℕ → Store) → EachStands old.servers.items stores
    → new.bag ≡ old.bag ++ to_live old.removed (effect (stores server) input).out.sent

-- the entry says what it did
abbrev pub IsEntryBy : Machine → Event → ℕ → Input → Entry → Type 0
IsEntryBy machine event server input entry =
    (stores : ℕ → Store) → EachStands machine.servers.items stores
    → entry ≡ effect_entry event (effect (stores server) input)

-- ---- an input, unless it is void

abbrev pub step_by : Option VoidCause → World → Event → ℕ → Input → Step
step_by (Some cause) w event server input = idle_step w event (Some cause)
step_by None w event server input = effect_step w event server input

-- an event that takes no message out of the bag, and removes no server
pub record AddsOnly (w : World) (event : Event) : Type 0 where
  pub bag : (void : Option VoidCause) (sent : List Sent)
      → bag_after (removals w.journal) (bag w.journal) event void sent
      ≡ bag w.journal ++ to_live (removals w.journal) sent
  pub removed : (void : Option VoidCause)
      → removed_in event void (removals w.journal) ≡ removals w.journal

abbrev pub StepsBehind : Machine → Machine → Option VoidCause → Event → ℕ → Input → Type 0
StepsBehind old new void event server input = (w : World) → Stands old w → AddsOnly w event
    → Stands new (world_after w (step_by void w event server input))

abbrev pub IsStepEntry : Machine → Option VoidCause → Event → ℕ → Input → Entry → Type 0
IsStepEntry machine void event server input entry = (w : World) → Stands machine w
    → entry ≡ (step_by void w event server input).entry

-- ---- what is waited for

-- what a live server gives
abbrev pub of_one : ℕ → World → (ℕ → List Cause) → ℕ → List Cause
of_one servers w of server = if is_live servers w server then of server else []

-- the first that any gives
abbrev pub FirstOf : Option Cause → ℕ → World → (ℕ → List Cause) → Type 0
FirstOf first servers w of = first ≡ slice_get (of_live servers w of servers) 0
