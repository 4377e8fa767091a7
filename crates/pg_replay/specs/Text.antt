-- The journal of a run: its lines, and its text.
use Rattle.std.specs.Prelude.{ℕ, ◌≡◌, if◌then◌else◌, ◌+◌, List, [], ◌∷◌, ◌++◌, map, Option, None, Some, zero, suc}
use Rattle.pg_base.specs.declared.id.FileId.{FileId}
use Rattle.pg_event.specs.declared.entry.VoidCause.TheVariants.{NoMeter}
use Rattle.pg_event.specs.declared.event.Event.{Event}
use Rattle.pg_meter.specs.Note.{Readings, reading_at, seen_by_all, taken_off}
use Rattle.pg_meter.specs.declared.meter.Reading.{Reading}
use Rattle.pg_sched.specs.Schedule.{AreLines, IsCount, spelling}
use Rattle.pg_sched.specs.declared.line.Form.{Form}
use Rattle.pg_sched.specs.declared.line.Form.TheVariants.{Short}
use Rattle.pg_sched.specs.declared.line.Line.{Line}
use Rattle.pg_sched.specs.declared.line.Line.TheVariants as line
use Rattle.pg_trace.specs.Text.{entry_lines, head_lines}
use Rattle.pg_trace.specs.JournalLine.{ArePrinted, journal_spelling}
use Rattle.pg_trace.specs.declared.journal_line.JournalLine.{JournalLine}
use Rattle.pg_trace.specs.declared.journal_line.JournalLine.TheVariants as printed
use Rattle.pg_trace.specs.declared.journal_line.AskedAt.TheVariants as word
use Rattle.pg_run.specs.Run.{World, is_live, next, start}
use Rattle.pg_run.specs.Quiet.{quiet_of}
use Rattle.pg_replay.specs.declared.mark.Mark.{Mark}
use Rattle.pg_replay.specs.Marks.{marks_of}
use Rattle.pg_replay.specs.Shown.{held_lines}
use Rattle.pg_replay.specs.Settling.{after_event, after_line, events_of, most_deliveries, settling}

-- what a live server shows of a file or directory
abbrev pub shown_at : ℕ → World → FileId → ℕ → List JournalLine
shown_at servers w id server =
    if is_live servers w server then held_lines server (w.stores server) id else []

-- what the first servers show of it, in increasing order
abbrev pub shows_lines : ℕ → World → FileId → ℕ → List JournalLine
shows_lines servers w id zero = []
shows_lines servers w id (suc k) = shows_lines servers w id k ++ shown_at servers w id (suc k)

-- where no live server holds it, that is told
abbrev pub or_nowhere : FileId → List JournalLine → List JournalLine
or_nowhere id [] = printed.Nowhere id ∷ []
or_nowhere id (line ∷ lines) = line ∷ lines

abbrev pub shown_lines : World → FileId → ℕ → List JournalLine
shown_lines w id servers = or_nowhere id (shows_lines servers w id servers)

abbrev pub event_lines : ℕ → ℕ → Form → World → Event → List JournalLine
event_lines servers number form w event = entry_lines number form (next servers w event).entry

-- the events of a settling: in full form each with its line in front
abbrev pub inner_lines : ℕ → ℕ → Form → World → List Event → List JournalLine
inner_lines servers number form w [] = []
inner_lines servers number form w (event ∷ events) =
    head_lines number form (line.Happens event)
    ++ (event_lines servers number form w event
    ++ inner_lines servers number form (after_event servers w event) events)

-- in full form the line itself stands in front of its output. A line that sets the form writes
-- nothing
abbrev pub line_head : ℕ → Form → Line → List JournalLine
line_head number form (line.Happens event) = head_lines number form (line.Happens event)
line_head number form (line.Settle rounds moment) =
    head_lines number form (line.Settle rounds moment)
line_head number form (line.Show file) = head_lines number form (line.Show file)
line_head number form line.Quiet = head_lines number form line.Quiet
line_head number form (line.Trace next) = []
line_head number form (line.MeterOff meter) = head_lines number form (line.MeterOff meter)

-- what a meter has counted
abbrev pub reading_line : Reading → JournalLine
reading_line reading = printed.Meter reading.kind reading.value

-- a meter that is taken off tells what it has counted; where there is none the line is void
abbrev pub off_lines : ℕ → Option Reading → List JournalLine
off_lines number (Some reading) = reading_line reading ∷ []
off_lines number None = printed.Void number NoMeter ∷ []

-- what a line asks for, where this is its number, and it takes off the meter with this reading. Of
-- a settling its events, and whether all is done behind them
abbrev pub output_lines : ℕ → ℕ → Form → World → Option Reading → Line → List JournalLine
output_lines servers number form w off (line.Happens event) =
    event_lines servers number form w event
output_lines servers number form w off (line.Settle rounds moment) =
    inner_lines servers number form w (settling servers most_deliveries moment w rounds)
    ++ printed.Asked word.Settle
    (quiet_of servers (after_line servers w (line.Settle rounds moment)))
    ∷ []
output_lines servers number form w off (line.Show id) = shown_lines w id servers
output_lines servers number form w off line.Quiet =
    printed.Asked word.Quiet (quiet_of servers w) ∷ []
output_lines servers number form w off (line.Trace next) = []
output_lines servers number form w off (line.MeterOff meter) = off_lines number off

abbrev pub line_output : ℕ → ℕ → Form → World → Option Reading → Line → List JournalLine
line_output servers number form w off line =
    line_head number form line ++ output_lines servers number form w off line

-- the form from the next line on
abbrev pub form_from : Form → Line → Form
form_from form (line.Happens event) = form
form_from form (line.Settle rounds moment) = form
form_from form (line.Show file) = form
form_from form line.Quiet = form
form_from form (line.Trace next) = next
form_from form (line.MeterOff meter) = form

-- ---- meters

-- the meter that a line takes off, if it takes off one
abbrev pub off_by : Readings → Line → Option Reading
off_by readings (line.MeterOff meter) = reading_at readings meter
off_by readings (line.Happens event) = None
off_by readings (line.Settle rounds moment) = None
off_by readings (line.Show file) = None
off_by readings line.Quiet = None
off_by readings (line.Trace next) = None

-- the others
abbrev pub others_than : Readings → Line → Readings
others_than readings (line.MeterOff meter) = taken_off readings meter
others_than readings (line.Happens event) = readings
others_than readings (line.Settle rounds moment) = readings
others_than readings (line.Show file) = readings
others_than readings line.Quiet = readings
others_than readings (line.Trace next) = readings

-- each that is still in has seen the note of each of these events
abbrev pub seen_marks : Readings → List Mark → Readings
seen_marks readings [] = readings
seen_marks readings (mark ∷ marks) = seen_marks (seen_by_all mark.note readings) marks

-- what the meters have counted behind a line, where they had counted this before
abbrev pub readings_behind : ℕ → World → Readings → Line → Readings
readings_behind servers w readings line =
    seen_marks (others_than readings line) (marks_of servers w (events_of servers w line))

-- what those that are still in have counted
abbrev pub reading_lines : Readings → List JournalLine
reading_lines [] = []
reading_lines (None ∷ readings) = reading_lines readings
reading_lines (Some reading ∷ readings) = reading_line reading ∷ reading_lines readings

-- ---- the journal

-- the lines of a journal, from the line of the schedule with this number on; at its end it is told
-- whether all is done, and what the meters have counted that are still in
abbrev pub journal_lines : ℕ → ℕ → Form → Readings → World → List Line → List JournalLine
journal_lines servers number form readings w [] =
    printed.Asked word.End (quiet_of servers w) ∷ reading_lines readings
journal_lines servers number form readings w (line ∷ lines) =
    line_output servers number form w (off_by readings line) line
    ++ journal_lines servers (number + 1) (form_from form line)
    (readings_behind servers w readings line) (after_line servers w line) lines

-- the journal of a schedule: its first line has number 1, the form is short at first, and these
-- meters are handed in
abbrev pub journal_of : List Reading → ℕ → List Line → List JournalLine
journal_of meters servers lines =
    journal_lines servers 2 Short (map Some meters) (start servers) lines

-- what is written for a schedule
abbrev pub text_of : List Reading → ℕ → List Line → List ℕ
text_of meters servers lines = journal_spelling (journal_of meters servers lines)

-- the input spells a schedule, each line of the journal of the schedule's run is a line of a
-- journal, and P holds of the text of that journal, where these meters are handed in
pub record IsTextOf (meters : List Reading) (input : List ℕ) (P : List ℕ → Type 0) : Type 0 where
  pub servers : ℕ
  pub lines : List Line
  pub count : IsCount servers
  pub each : AreLines lines
  pub whole : input ≡ spelling servers lines
  pub printed : ArePrinted (journal_of meters servers lines)
  pub written : P (text_of meters servers lines)
