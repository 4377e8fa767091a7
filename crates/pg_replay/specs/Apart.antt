-- Journals apart from meters.
use Rattle.std.specs.Prelude.{ℕ, ◌≡◌, Bool, true, false, not, List, filter}
use Rattle.pg_event.specs.declared.entry.VoidCause.{VoidCause}
use Rattle.pg_event.specs.declared.entry.VoidCause.TheVariants.{NoMeter, NoMessage, NoServer, Removed, Unremoved, Last}
use Rattle.pg_meter.specs.declared.meter.Reading.{Reading}
use Rattle.pg_sched.specs.declared.line.Line.{Line}
use Rattle.pg_trace.specs.declared.journal_line.JournalLine.{JournalLine}
use Rattle.pg_trace.specs.declared.journal_line.JournalLine.TheVariants as printed
use Rattle.pg_replay.specs.Text.{journal_of}

abbrev pub lacks_meter : VoidCause → Bool
lacks_meter NoMeter = true
lacks_meter NoMessage = false
lacks_meter NoServer = false
lacks_meter Removed = false
lacks_meter Unremoved = false
lacks_meter Last = false

-- a meter's own line, or one that is void for want of a meter
abbrev pub is_of_meters : JournalLine → Bool
is_of_meters (printed.Meter kind value) = true
is_of_meters (printed.Void line cause) = lacks_meter cause
is_of_meters _ = false

abbrev pub apart_from_meters : List JournalLine → List JournalLine
apart_from_meters lines = filter (λ line. not (is_of_meters line)) lines

-- but for these lines, journals of a schedule are the same whatever meters are handed in
abbrev pub JournalsAreAlike : ℕ → Type 0
JournalsAreAlike servers =
    (lines : List Line) (meters others : List Reading)
    → apart_from_meters (journal_of meters servers lines)
    ≡ apart_from_meters (journal_of others servers lines)
