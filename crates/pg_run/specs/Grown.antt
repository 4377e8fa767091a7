-- What a server holds it holds on, until its birth is over: statements on all runs.
use Rattle.std.specs.Prelude.{ℕ, List, ◌++◌}
use Rattle.pg_event.specs.declared.event.Event.{Event}
use Rattle.pg_server.specs.declared.input.Input.{Input}
use Rattle.pg_server.specs.Local.{effect, first_effect}
use Rattle.theory_flood_pieces.specs.Growing.{Grows}
use Rattle.pg_run.specs.Laws.{TakesIn, store_after}
use Rattle.pg_run.specs.Run.{run}

-- after whatever more events: each replica with its birth, and of its place, flags, entries and
-- versions as much or more; or the birth is over
abbrev pub RunsGrow : ℕ → Type 0
RunsGrow servers = (events more : List Event) (s : ℕ)
    → Grows (store_after servers events s) (store_after servers (events ++ more) s)

-- and so within an event, behind its first effect and at its end
abbrev pub EventsGrow : ℕ → Type 0
EventsGrow servers = (events : List Event) (event : Event) (s : ℕ) (asked : Input)
    → TakesIn servers (run servers events) event s asked
    → let a = store_after servers events s in
    Grows a (first_effect a asked).store × Grows a (effect a asked).store
