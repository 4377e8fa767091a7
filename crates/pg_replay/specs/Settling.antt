-- Which events a line stands for.
use Rattle.std.specs.Prelude.{ℕ, if◌then◌else◌, List, [], ◌∷◌, ◌++◌, zero, suc}
use Rattle.pg_event.specs.declared.event.Event.{Event}
use Rattle.pg_event.specs.declared.event.Event.TheVariants.{Tick, Deliver}
use Rattle.pg_sched.specs.declared.line.Line.{Line}
use Rattle.pg_sched.specs.declared.line.Line.TheVariants as line
use Rattle.pg_event.specs.declared.quiet.Quiet.{Quiet}
use Rattle.pg_event.specs.declared.quiet.Quiet.TheVariants as quiet
use Rattle.pg_run.specs.Journal.{bag}
use Rattle.pg_run.specs.Quiet.{has_some, quiet_of}
use Rattle.pg_run.specs.Run.{World, is_live, next, world_after, run_from}

-- how many messages one round delivers at most
abbrev pub most_deliveries : ℕ
most_deliveries = 100000

abbrev pub after_event : ℕ → World → Event → World
after_event servers w event = world_after w (next servers w event)

-- the first message is delivered until none is under way, at most so many times
abbrev pub deliveries : ℕ → World → ℕ → List Event
deliveries servers w zero = []
deliveries servers w (suc k) =
    if has_some (bag w.journal)
    then Deliver 1 ∷ deliveries servers (after_event servers w (Deliver 1)) k
    else []

-- a tick of this server, where it is live, at this moment and with the word 0
abbrev pub tick_of : ℕ → ℕ → World → ℕ → List Event
tick_of servers moment w server =
    if is_live servers w server then Tick server moment 0 ∷ [] else []

-- the first servers tick, one behind the other
abbrev pub ticks : ℕ → ℕ → World → ℕ → List Event
ticks servers moment w zero = []
ticks servers moment w (suc k) =
    ticks servers moment w k
    ++ tick_of servers moment (run_from servers w (ticks servers moment w k)) (suc k)

-- nothing more happens where the run is quiet
abbrev pub unless_quiet : Quiet → List Event → List Event
unless_quiet quiet.Quiet events = []
unless_quiet (quiet.Waits cause) events = events

-- the world behind the deliveries of a round
abbrev pub delivered : ℕ → ℕ → World → World
delivered servers most w = run_from servers w (deliveries servers w most)

-- the ticks of a round, behind its deliveries
abbrev pub round_ticks : ℕ → ℕ → ℕ → World → List Event
round_ticks servers most moment w = ticks servers moment (delivered servers most w) servers

-- the world behind both
abbrev pub ticked : ℕ → ℕ → ℕ → World → World
ticked servers most moment w =
    run_from servers (delivered servers most w) (round_ticks servers most moment w)

-- at most so many rounds, each with at most so many deliveries: all is delivered, and where the run
-- is not quiet then, each live server ticks and a further round follows
abbrev pub settling : ℕ → ℕ → ℕ → World → ℕ → List Event
settling servers most moment w zero = []
settling servers most moment w (suc k) =
    deliveries servers w most
    ++ unless_quiet (quiet_of servers (delivered servers most w))
    (round_ticks servers most moment w
    ++ settling servers most moment (ticked servers most moment w) k)

-- the events that a line stands for
abbrev pub events_of : ℕ → World → Line → List Event
events_of servers w (line.Happens event) = event ∷ []
events_of servers w (line.Settle rounds moment) = settling servers most_deliveries moment w rounds
events_of servers w (line.Show file) = []
events_of servers w line.Quiet = []
events_of servers w (line.Trace form) = []
events_of servers w (line.MeterOff meter) = []

abbrev pub after_line : ℕ → World → Line → World
after_line servers w line = run_from servers w (events_of servers w line)

abbrev pub after_lines : ℕ → World → List Line → World
after_lines servers w [] = w
after_lines servers w (line ∷ lines) = after_lines servers (after_line servers w line) lines

-- the events of all lines, one behind the other
abbrev pub all_events : ℕ → World → List Line → List Event
all_events servers w [] = []
all_events servers w (line ∷ lines) =
    events_of servers w line ++ all_events servers (after_line servers w line) lines
