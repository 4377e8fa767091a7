-- How a replay goes on.
use Rattle.std.specs.Prelude.{ℕ, ◌≡◌, List, [], ◌++◌, Option, false}
use Rattle.pg_event.specs.declared.event.Event.{Event}
use Rattle.pg_meter.specs.declared.meter.Reading.{Reading}
use Rattle.pg_sched.specs.declared.line.Form.TheVariants.{Short}
use Rattle.pg_sched.specs.declared.line.Line.{Line}
use Rattle.pg_trace.specs.JournalLine.{ArePrinted, journal_spelling}
use Rattle.pg_trace.specs.declared.journal_line.JournalLine.{JournalLine}
use Rattle.pg_world.specs.Played.{final}
use Rattle.pg_run.specs.Run.{run_from}
use Rattle.pg_replay.specs.declared.journal.Replay.{Replay}
use Rattle.pg_replay.specs.declared.mark.Mark.{Mark}
use Rattle.pg_replay.specs.Marks.{marked}
use Rattle.pg_replay.specs.Settling.{after_line, events_of}
use Rattle.pg_replay.specs.Text.{form_from, inner_lines, line_output, output_lines}

-- nothing has happened
pub record Begins (servers : ℕ) (replay : Replay) : Type 0 where
  pub world : replay.world ≡ record { servers = servers; events = []; failed = false }
  pub number : replay.number ≡ 1
  pub form : replay.form ≡ Short
  pub marks : replay.marks.items ≡ []
  pub out : replay.out ≡ []

-- these events happened, and these lines were written, each a line of a journal
pub record Reaches (before after : Replay) (events : List Event) (written : List JournalLine)
    : Type 0 where
  pub world : final after.world ≡ run_from before.world.servers (final before.world) events
  pub going : after.world.failed ≡ false
  pub servers : after.world.servers ≡ before.world.servers
  pub number : after.number ≡ before.number
  pub form : after.form ≡ before.form
  pub marks : after.marks.items
      ≡ marked before.marks.items before.world.servers (final before.world) events
  pub text : after.out ≡ before.out ++ journal_spelling written
  pub printed : ArePrinted written

-- these events of a settling happened, and what is written of them
abbrev pub GoesOn : Replay → Replay → List Event → Type 0
GoesOn before after events =
    Reaches before after events
    (inner_lines before.world.servers before.number before.form (final before.world) events)

-- what a line asks for happened, and was written, where it takes off the meter with this reading
abbrev pub Answers : Replay → Replay → Option Reading → Line → Type 0
Answers before after off line =
    Reaches before after (events_of before.world.servers (final before.world) line)
    (output_lines before.world.servers before.number before.form (final before.world) off line)

-- the lines that a line of a schedule with this number stands for
abbrev pub written_of : Replay → ℕ → Option Reading → Line → List JournalLine
written_of before number off line =
    line_output before.world.servers number before.form (final before.world) off line

-- the marks before it, and behind them those of its events
abbrev pub marks_behind : Replay → Line → List Mark
marks_behind before line =
    marked before.marks.items before.world.servers (final before.world)
    (events_of before.world.servers (final before.world) line)

-- the line with this number was taken, with its own line in front in full form
pub record Takes (before after : Replay) (number : ℕ) (off : Option Reading) (line : Line)
    : Type 0 where
  pub world : final after.world ≡ after_line before.world.servers (final before.world) line
  pub going : after.world.failed ≡ false
  pub servers : after.world.servers ≡ before.world.servers
  pub form : after.form ≡ form_from before.form line
  pub marks : after.marks.items ≡ marks_behind before line
  pub text : after.out
      ≡ before.out ++ journal_spelling (written_of before number off line)
  pub printed : ArePrinted (written_of before number off line)
