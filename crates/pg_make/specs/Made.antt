-- Made schedules: what three numbers stand for.
use Rattle.std.specs.Prelude.{ℕ, zero, suc, ◌+◌, ◌*◌, ◌%◌, ◌==◌, List, [], ◌∷◌, ◌++◌, cond}
use Rattle.pg_make.specs.Event.{next_event}
use Rattle.pg_sched.specs.Schedule.{spelling}
use Rattle.pg_sched.specs.declared.line.Line.{Line}
use Rattle.pg_sched.specs.declared.line.Line.TheVariants.{Happens, Settle, Quiet}
use Rattle.rand_pcg.specs.Lcg.{Lcg, started, increment_of}
use Rattle.rand_pcg.specs.Pcg.{multiplier_64}

-- the generator before the first draw: that of the seed, on stream 1
abbrev pub first_words : ℕ → Lcg
first_words seed = started 64 multiplier_64 seed (increment_of 64 1)

-- a settling of one round behind each sixteenth event
abbrev pub settling_after : ℕ → List Line
settling_after number = cond (number % 16 == 0) (Settle 1 (10 * number) ∷ []) []

-- the lines of the event with this number, counted from 1: its moment is ten times its number
abbrev pub numbered_lines : ℕ → ℕ → Lcg → List Line × Lcg
numbered_lines servers number words =
    let event = next_event servers (10 * number) words in
    (Happens event.0 ∷ settling_after number, event.1)

-- the lines of the first so many events
abbrev pub first_lines : ℕ → ℕ → Lcg → List Line × Lcg
first_lines servers zero words = ([], words)
first_lines servers (suc count) words =
    let before = first_lines servers count words in
    let more = numbered_lines servers (suc count) before.1 in
    (before.0 ++ more.0, more.1)

-- all lines behind the header: those of the events, a settling, and the question whether all is
-- done
abbrev pub made_lines : ℕ → ℕ → ℕ → List Line
made_lines seed servers events =
    (first_lines servers events (first_words seed)).0
    ++ (Settle 64 (10 * (events + 1)) ∷ Quiet ∷ [])

-- the text of the made schedule
abbrev pub made_text : ℕ → ℕ → ℕ → List ℕ
made_text seed servers events = spelling servers (made_lines seed servers events)
