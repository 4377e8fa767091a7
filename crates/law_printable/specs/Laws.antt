-- What is told of any run suits what is written of it.
use Rattle.std.specs.Prelude.{ℕ, ◌≡◌, List, Some}
use Rattle.law_frame.specs.pg_run.pg_base.declared.id.FileId.{FileId}
use Rattle.law_frame.specs.pg_run.pg_event.Event.{IsEvent}
use Rattle.law_frame.specs.pg_run.pg_event.declared.event.Event.{Event}
use Rattle.law_frame.specs.pg_run.pg_names.Names.{InodeValue, known}
use Rattle.law_frame.specs.pg_run.Quiet.{quiet_of}
use Rattle.law_frame.specs.pg_run.Run.{next, run}
use Rattle.pg_trace.specs.Suited.{IsSuited, SuitsPlace, SuitsQuiet}

-- after any events, the entry of one more that a schedule may have suits
abbrev pub EntriesSuit : ℕ → Type 0
EntriesSuit servers = (events : List Event) (event : Event) → IsEvent event
    → IsSuited (next servers (run servers events) event).entry

-- after any events, what the run waits for suits
abbrev pub AnswersSuit : ℕ → Type 0
AnswersSuit servers = (events : List Event) → SuitsQuiet (quiet_of servers (run servers events))

-- after any events, the place of whatever a server holds suits
abbrev pub PlacesSuit : ℕ → Type 0
PlacesSuit servers = (events : List Event) (server : ℕ) (file : FileId) (x : InodeValue)
    → known ((run servers events).stores server).names file ≡ Some x → SuitsPlace file x.own.place
