-- What is counted of the events of a run.
use Rattle.std.specs.Prelude.{ℕ, List, [], ◌∷◌, ◌++◌, Option, None, Some}
use Rattle.pg_call.specs.declared.reply.Reply.{Reply}
use Rattle.pg_call.specs.declared.reply.Reply.TheVariants as reply
use Rattle.pg_event.specs.declared.entry.Entry.{Entry}
use Rattle.pg_event.specs.declared.entry.VoidCause.{VoidCause}
use Rattle.pg_event.specs.declared.event.Event.{Event}
use Rattle.pg_event.specs.declared.event.Event.TheVariants.{Call, Tick, Deliver, Lose, Repeat, Restart, Remove}
use Rattle.pg_meter.specs.Note.{note_of}
use Rattle.pg_run.specs.Run.{World, next}
use Rattle.pg_world.specs.Repeats.{repeats}
use Rattle.pg_replay.specs.declared.mark.Mark.{Mark}
use Rattle.pg_replay.specs.declared.mark.Outcome.{Outcome}
use Rattle.pg_replay.specs.declared.mark.Outcome.TheVariants as outcome
use Rattle.pg_replay.specs.Settling.{after_event}

abbrev pub answered : Reply → Outcome
answered (reply.Refused why) = outcome.Refused
answered reply.Done = outcome.Answered
answered (reply.Made id) = outcome.Answered
answered (reply.Wrote stamp) = outcome.Answered
answered (reply.Bytes bytes) = outcome.Answered
answered (reply.Names total rows) = outcome.Answered
answered (reply.Stat stat) = outcome.Answered
answered (reply.Leaving leaving) = outcome.Answered
answered (reply.Status counts) = outcome.Answered

-- whether a client is told something, and whether that is a refusal. A tick has no client
abbrev pub told : Event → Option Reply → Outcome
told (Call server moment call) None = outcome.Other
told (Call server moment call) (Some answer) = answered answer
told (Tick server moment word) answer = outcome.Other
told (Deliver number) answer = outcome.Other
told (Lose number) answer = outcome.Other
told (Repeat number) answer = outcome.Other
told (Restart server) answer = outcome.Other
told (Remove server) answer = outcome.Other

abbrev pub outcome_by : Option VoidCause → Event → Option Reply → Outcome
outcome_by (Some cause) event answer = outcome.Void
outcome_by None event answer = told event answer

abbrev pub outcome_of : Entry → Outcome
outcome_of entry = outcome_by entry.void entry.event entry.reply

-- the mark of an entry, in whose event so many bodies came that were known
abbrev pub mark_by : Entry → ℕ → Mark
mark_by entry known = record { note = note_of entry known; outcome = outcome_of entry }

abbrev pub mark_of : ℕ → World → Event → Mark
mark_of servers w event = mark_by (next servers w event).entry (repeats servers w event)

-- marks, and behind them those of events, one behind the other
abbrev pub marked : List Mark → ℕ → World → List Event → List Mark
marked marks servers w [] = marks
marked marks servers w (event ∷ events) =
    marked (marks ++ mark_of servers w event ∷ []) servers (after_event servers w event) events

-- the marks of events
abbrev pub marks_of : ℕ → World → List Event → List Mark
marks_of servers w events = marked [] servers w events
