-- The house rules in every event of every run.
use Rattle.std.specs.Prelude.{ℕ, ◌≡◌, true, List}
use Rattle.pg_run.specs.pg_event.declared.event.Event.{Event}
use Rattle.pg_run.specs.pg_house.Work.{state_of}
use Rattle.pg_run.specs.pg_server.declared.input.Input.{Input}
use Rattle.pg_run.specs.pg_server.Local.{first_effect, takes_effect}
use Rattle.pg_run.specs.Laws.{TakesIn}
use Rattle.pg_run.specs.Run.{run}
use Rattle.law_house.specs.Steps.{GoesBySteps}

-- behind the first effect of whatever takes effect at a server the house rules go by single steps
abbrev pub RulesGoBySteps : ℕ → Type 0
RulesGoBySteps servers = (events : List Event) (event : Event) (s : ℕ) (asked : Input)
    → let a = (run servers events).stores s in TakesIn servers (run servers events) event s asked
    → takes_effect a asked ≡ true
    → let first = first_effect a asked in
    GoesBySteps first.work.now (state_of first.store.names first.work)
