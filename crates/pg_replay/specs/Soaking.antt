-- What is said of the run of a made schedule.
use Rattle.std.specs.Prelude.{ℕ, List, [], ◌∷◌, ◌++◌, codes, decimal}
use Rattle.pg_make.specs.Made.{made_lines}
use Rattle.pg_meter.specs.Note.{added}
use Rattle.pg_run.specs.Quiet.{quiet_of}
use Rattle.pg_run.specs.Run.{World, start}
use Rattle.pg_sched.specs.declared.line.Line.{Line}
use Rattle.pg_trace.specs.JournalLine.{printed_text}
use Rattle.pg_trace.specs.declared.journal_line.JournalLine.TheVariants as printed
use Rattle.pg_trace.specs.declared.journal_line.AskedAt.TheVariants as word
use Rattle.pg_replay.specs.declared.mark.Mark.{Mark}
use Rattle.pg_replay.specs.declared.mark.Outcome.{Outcome}
use Rattle.pg_replay.specs.declared.mark.Outcome.TheVariants as outcome
use Rattle.pg_replay.specs.declared.soak.Tally.{Tally}
use Rattle.pg_replay.specs.Marks.{marks_of}
use Rattle.pg_replay.specs.Settling.{after_line, after_lines, events_of}

-- nothing is counted yet
abbrev pub no_tally : Tally
no_tally = record { lines = 0; replies = 0; refused = 0; voids = 0; sent = 0 }

-- one more of this kind
abbrev pub with_outcome : Outcome → Tally → Tally
with_outcome outcome.Answered t = record t { replies = added t.replies 1 }
with_outcome outcome.Refused t = record t { refused = added t.refused 1 }
with_outcome outcome.Void t = record t { voids = added t.voids 1 }
with_outcome outcome.Other t = t

-- of an event: whether it was void, whether a client was refused or told, and how many messages
-- were sent
abbrev pub with_mark : Mark → Tally → Tally
with_mark mark t = with_outcome mark.outcome (record t { sent = added t.sent mark.note.packets })

abbrev pub with_marks : List Mark → Tally → Tally
with_marks [] t = t
with_marks (mark ∷ marks) t = with_marks marks (with_mark mark t)

abbrev pub with_line : Tally → Tally
with_line t = record t { lines = added t.lines 1 }

-- the lines of a schedule, and their events
abbrev pub with_lines : ℕ → World → List Line → Tally → Tally
with_lines servers w [] t = t
with_lines servers w (line ∷ lines) t =
    with_lines servers (after_line servers w line) lines
    (with_marks (marks_of servers w (events_of servers w line)) (with_line t))

abbrev pub tally_of : ℕ → List Line → Tally
tally_of servers lines = with_lines servers (start servers) lines no_tally

-- ---- what is written

abbrev pub head_line : ℕ → ℕ → ℕ → List ℕ
head_line seed servers events =
    codes "soak seed " ++ (decimal seed ++ (codes " servers " ++ (decimal servers
    ++ (codes " events " ++ (decimal events ++ 10 ∷ [])))))

abbrev pub tally_line : Tally → List ℕ
tally_line t =
    codes "lines " ++ (decimal t.lines ++ (codes " replies " ++ (decimal t.replies
    ++ (codes " refused " ++ (decimal t.refused ++ (codes " voids " ++ (decimal t.voids
    ++ (codes " sent " ++ (decimal t.sent ++ 10 ∷ [])))))))))

-- whether all is done in this world
abbrev pub quiet_line : ℕ → World → List ℕ
quiet_line servers w = printed_text (printed.Asked word.Quiet (quiet_of servers w))

-- which schedule it is, what was counted of its run, and whether all is done behind it
abbrev pub soak_text : ℕ → ℕ → ℕ → List ℕ
soak_text seed servers events =
    let lines = made_lines seed servers events in
    head_line seed servers events
    ++ (tally_line (tally_of servers lines)
    ++ quiet_line servers (after_lines servers (start servers) lines))
