-- What each event does to the servers, to the journal, to the history of versions, to what replicas
-- took, and to whom servers asked for bodies.
use Rattle.std.specs.Prelude.{[], ℕ, ◌&&◌, ◌==◌, ◌+◌, Bool, true, false, not, nat_le, nat_eq, slice_get, zero, suc, if◌then◌else◌, List, ◌∷◌, ◌++◌, drop, length, map, Option, None, Some}
use Rattle.std.specs.Option.{option_eq}
use Rattle.pg_server.specs.pg_pieces.pg_msg.declared.message.Sent.{Sent}
use Rattle.pg_server.specs.pg_pieces.pg_msg.declared.update.Update.{Update}
use Rattle.pg_server.specs.pg_pieces.pg_call.declared.call.Call.{Call}
use Rattle.pg_server.specs.pg_pieces.pg_call.declared.call.Call.TheVariants as call
use Rattle.pg_event.specs.declared.event.Event.{Event}
use Rattle.pg_event.specs.declared.event.Event.TheVariants.{Call as Called, Tick, Deliver, Lose, Repeat, Restart, Remove}
use Rattle.pg_event.specs.declared.entry.Entry.{Entry}
use Rattle.pg_event.specs.declared.entry.VoidCause.{VoidCause}
use Rattle.pg_event.specs.declared.entry.VoidCause.TheVariants.{Last, NoMessage, NoServer, Removed, Unremoved}
use Rattle.theory_flood.specs.World.{after}
use Rattle.pg_server.specs.pg_pieces.pg_store.declared.store.Store.{Store}
use Rattle.pg_server.specs.pg_pieces.pg_store.Seen.{removed_of}
use Rattle.pg_server.specs.pg_pieces.pg_store.Start.{first_flags}
use Rattle.pg_server.specs.pg_pieces.pg_store.Store.{new_store}
use Rattle.pg_server.specs.declared.input.Input.{Input}
use Rattle.pg_server.specs.declared.input.Input.TheVariants as input
use Rattle.pg_server.specs.Local.{Effect, effect, first_effect, takes_effect}
use Rattle.pg_register.specs.Flag.{is_removed}
use Rattle.pg_run.specs.Journal.{Born, bag, born_in, message_at, removals}
use Rattle.pg_run.specs.Took.{Take, first_takes, take_of, without_gone}
use Rattle.pg_run.specs.Asking.{Asked, nobody_asked}
use Rattle.pg_run.specs.Carried.{came, gone_in, strikes}
use Rattle.pg_run.specs.Asked.{asked_behind}
use Rattle.pg_run.specs.Passed.{passed, passed_with}

-- stores: what each server holds, by its number
-- journal: the entries so far, the latest first
-- history: all versions that were made, each with the birth of the replica that made it, the latest
--   first
-- took: what each server's replicas took
-- asked: of each version whom each server asked for it last, where that counts still
pub record World : Type 0 where
  pub stores : ℕ → Store
  pub journal : List Entry
  pub history : List Born
  pub took : ℕ → List Take
  pub asked : ℕ → Asked

-- what the servers hold after an event, its entry, the history, what replicas took, and who was
-- asked
pub record Step : Type 0 where
  pub stores : ℕ → Store
  pub entry : Entry
  pub history : List Born
  pub took : ℕ → List Take
  pub asked : ℕ → Asked

-- ---- what an event brings a server's replicas

-- what the first effect of an event made, before the house rules
abbrev pub first_made : Store → Input → List Update
first_made store asked = (first_effect store asked).work.made

-- what is made of what is held is taken by its replica
abbrev pub made_takes : Store → Input → List Take
made_takes store asked =
    if strikes store asked then [] else map take_of (first_made store asked)

-- what its first effect brings: what was made, and what came
abbrev pub brought : Store → Asked → Input → List Take
brought store wants asked = made_takes store asked ++ came store wants asked

-- the updates that the house rules made in the event, in their order
abbrev pub made_behind : Store → Input → List Update
made_behind store asked = drop (length (first_made store asked)) (effect store asked).out.made

-- what a server's replicas took then, before anything passes: what its first effect brings, and
-- what they had, but for the replica that goes
abbrev pub took_first : Store → Asked → List Take → Input → List Take
took_first store wants takes asked =
    brought store wants asked ++ without_gone (gone_in store asked) takes

-- the servers that are removed in a server's view behind the first effect
abbrev pub removed_then : Store → Input → List ℕ
removed_then store asked = removed_of (first_effect store asked).store

-- what a server's replicas took then: what its first effect brings passes, and so does each update
-- that the house rules make
abbrev pub took_after : Store → Asked → List Take → Input → List Take
took_after store wants takes asked =
    if takes_effect store asked
    then passed_with (removed_then store asked)
    (passed (removed_then store asked) (took_first store wants takes asked))
    (made_behind store asked)
    else takes

-- ---- events

-- the entry of an event at which no server did anything; where it is void, this is why
abbrev pub idle_entry : Event → Option VoidCause → Entry
idle_entry event cause = record { event = event; void = cause; reply = None; made = []; sent = [] }

-- the entry of an event at which one server did this
abbrev pub effect_entry : Event → Effect → Entry
effect_entry event done = record {
  event = event;
  void = None;
  reply = done.out.reply;
  made = done.out.made;
  sent = done.out.sent;
}

abbrev pub idle_step : World → Event → Option VoidCause → Step
idle_step w event cause = record {
  stores = w.stores;
  entry = idle_entry event cause;
  history = w.history;
  took = w.took;
  asked = w.asked;
}

-- the versions that a server made in an event, each of its replica as that is then
abbrev pub history_after : List Born → Effect → List Born
history_after earlier done = born_in done.store done.out.made ++ earlier

-- one server takes an input
abbrev pub effect_step : World → Event → ℕ → Input → Step
effect_step w event server asked = record {
  stores = after w.stores server (effect (w.stores server) asked).store;
  entry = effect_entry event (effect (w.stores server) asked);
  history = history_after w.history (effect (w.stores server) asked);
  took = after w.took server
      (took_after (w.stores server) (w.asked server) (w.took server) asked);
  asked = after w.asked server (asked_behind (w.stores server) (w.asked server) asked);
}

abbrev pub is_server : ℕ → ℕ → Bool
is_server servers server = nat_le 1 server && nat_le server servers

-- a server of the run as it stands in a world: each world of a run has the servers of its start
abbrev pub is_member : ℕ → World → ℕ → Bool
is_member servers w server = is_server servers server

-- a server of the run that is not removed
abbrev pub is_live : ℕ → World → ℕ → Bool
is_live servers w server =
    is_member servers w server && not (is_removed (removals w.journal) server)

-- why nothing happens at a server that is no live one
abbrev pub why_void : ℕ → ℕ → VoidCause
why_void servers server = if is_server servers server then Removed else NoServer

-- a tick or a restart
abbrev pub server_step : ℕ → World → Event → ℕ → Input → Step
server_step servers w event server asked =
    if is_live servers w server then effect_step w event server asked
    else idle_step w event (Some (why_void servers server))

-- the removal with this number, counted from 1, is that of the server
abbrev pub is_removal : List ℕ → ℕ → ℕ → Bool
is_removal removed zero server = false
is_removal removed (suc k) server = option_eq nat_eq (slice_get removed k) (Some server)

-- a giveup is of a server that was removed so; any other call may come at any time
abbrev pub is_due : List ℕ → Call → Bool
is_due removed (call.Giveup view server) = is_removal removed view server
is_due removed _ = true

abbrev pub given_step : World → Event → ℕ → Input → Bool → Step
given_step w event server asked true = effect_step w event server asked
given_step w event server asked false = idle_step w event (Some Unremoved)

-- a client's call
abbrev pub call_step : ℕ → World → ℕ → ℕ → Call → Step
call_step servers w server moment c =
    if is_live servers w server
    then given_step w (Called server moment c) server (input.Call moment c)
    (is_due (removals w.journal) c)
    else idle_step w (Called server moment c) (Some (why_void servers server))

abbrev pub delivery_step : ℕ → World → Event → Option Sent → Step
delivery_step servers w event None = idle_step w event (Some NoMessage)
delivery_step servers w event (Some m) =
    if is_live servers w m.to then effect_step w event m.to (input.Arrival m.packet)
    else idle_step w event None

-- all others are removed already
abbrev pub is_last : ℕ → World → Bool
is_last servers w = length (removals w.journal) + 1 == servers

-- a server is removed, but for the last one. Its journal says so, and no server takes anything
abbrev pub removal_step : ℕ → World → Event → ℕ → Step
removal_step servers w event server =
    if is_live servers w server
    then idle_step w event (if is_last servers w then Some Last else None)
    else idle_step w event (Some (why_void servers server))

-- a loss or a copy: only the bag changes
abbrev pub bag_step : World → Event → Option Sent → Step
bag_step w event None = idle_step w event (Some NoMessage)
bag_step w event (Some m) = idle_step w event None

-- what comes of one event in a run with so many servers
abbrev pub next : ℕ → World → Event → Step
next servers w (Called server moment call) = call_step servers w server moment call
next servers w (Tick server moment word) =
    server_step servers w (Tick server moment word) server (input.Tick moment word)
next servers w (Deliver number) =
    delivery_step servers w (Deliver number) (message_at (bag w.journal) number)
next servers w (Lose number) = bag_step w (Lose number) (message_at (bag w.journal) number)
next servers w (Repeat number) = bag_step w (Repeat number) (message_at (bag w.journal) number)
next servers w (Restart server) = server_step servers w (Restart server) server input.Restart
next servers w (Remove server) = removal_step servers w (Remove server) server

-- ---- which server takes an input in an event

pub record Taking : Type 0 where
  pub server : ℕ
  pub asked : Input

abbrev pub taking_at : ℕ → World → ℕ → Input → Option Taking
taking_at servers w server asked =
    if is_live servers w server then Some (record { server = server; asked = asked }) else None

abbrev pub taking_call : ℕ → World → ℕ → ℕ → Call → Option Taking
taking_call servers w server moment c =
    if is_due (removals w.journal) c then taking_at servers w server (input.Call moment c) else None

abbrev pub taking_message : ℕ → World → Option Sent → Option Taking
taking_message servers w None = None
taking_message servers w (Some m) = taking_at servers w m.to (input.Arrival m.packet)

-- the server that takes one, and the input; where there is none, no server does anything
abbrev pub taking_in : ℕ → World → Event → Option Taking
taking_in servers w (Called server moment c) = taking_call servers w server moment c
taking_in servers w (Tick server moment word) =
    taking_at servers w server (input.Tick moment word)
taking_in servers w (Deliver number) =
    taking_message servers w (message_at (bag w.journal) number)
taking_in servers w (Lose number) = None
taking_in servers w (Repeat number) = None
taking_in servers w (Restart server) = taking_at servers w server input.Restart
taking_in servers w (Remove server) = None

-- ---- which server comes in an event

-- the one that it admits to the run. No event admits one: a run has the servers that it starts with
abbrev pub coming_in : Event → Option ℕ
coming_in event = None

-- ---- one event behind another

-- the world after a step
abbrev pub world_after : World → Step → World
world_after w step =
    record {
      stores = step.stores;
      journal = step.entry ∷ w.journal;
      history = step.history;
      took = step.took;
      asked = step.asked;
    }

abbrev pub start : ℕ → World
start servers = record {
  stores = new_store servers;
  journal = [];
  history = [];
  took = λ server. first_takes (first_flags servers);
  asked = λ server. nobody_asked;
}

-- the world after these events, the first of them first
abbrev pub run_from : ℕ → World → List Event → World
run_from servers w [] = w
run_from servers w (event ∷ events) = run_from servers (world_after w (next servers w event)) events

-- the one run of these events
abbrev pub run : ℕ → List Event → World
run servers events = run_from servers (start servers) events
