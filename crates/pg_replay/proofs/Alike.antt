-- Journals apart from meters.
use Rattle.std.proofs.Common.{ℕ, ◌≡◌, ◌+◌, ◌++◌, not, List, [], ◌∷◌, Option, None, Some, map, refl, sym, ap, ap₂, ◌∙◌}
use Rattle.std.proofs.lemmas.List.Elements.{filter-append}
use Rattle.pg_meter.specs.Note.{Readings}
use Rattle.pg_meter.specs.declared.meter.Reading.{Reading}
use Rattle.pg_run.specs.Quiet.{quiet_of}
use Rattle.pg_run.specs.Run.{World, start}
use Rattle.pg_sched.specs.declared.line.Form.{Form}
use Rattle.pg_sched.specs.declared.line.Form.TheVariants.{Short}
use Rattle.pg_sched.specs.declared.line.Line.{Line}
use Rattle.pg_sched.specs.declared.line.Line.TheVariants as line
use Rattle.pg_trace.specs.declared.journal_line.JournalLine.{JournalLine}
use Rattle.pg_trace.specs.declared.journal_line.JournalLine.TheVariants as printed
use Rattle.pg_trace.specs.declared.journal_line.AskedAt.TheVariants as word
use Rattle.pg_replay.specs.Apart.{JournalsAreAlike, apart_from_meters, is_of_meters}
use Rattle.pg_replay.specs.Settling.{after_line}
use Rattle.pg_replay.specs.Text.{form_from, journal_lines, line_head, line_output, off_by, off_lines, reading_lines, readings_behind}

-- lines and more lines
both : (xs ys : List JournalLine)
    → apart_from_meters (xs ++ ys) ≡ apart_from_meters xs ++ apart_from_meters ys
both xs ys = filter-append (λ (l : JournalLine). not (is_of_meters l)) xs ys

-- nothing else is said of meters
none_of_readings : (readings : Readings) → apart_from_meters (reading_lines readings) ≡ []
none_of_readings [] = refl
none_of_readings (None ∷ readings) = none_of_readings readings
none_of_readings (Some r ∷ readings) = none_of_readings readings

none_of_off : (number : ℕ) (off : Option Reading) → apart_from_meters (off_lines number off) ≡ []
none_of_off number None = refl
none_of_off number (Some r) = refl

off_alike : (number : ℕ) (head : List JournalLine) (off other : Option Reading)
    → apart_from_meters (head ++ off_lines number off)
    ≡ apart_from_meters (head ++ off_lines number other)
off_alike number head off other =
    both head (off_lines number off)
    ∙ ap (λ (ls : List JournalLine). apart_from_meters head ++ ls)
    (none_of_off number off ∙ sym (none_of_off number other))
    ∙ sym (both head (off_lines number other))

-- a line, whichever meter it takes off
output_alike : (n number : ℕ) (form : Form) (w : World) (off other : Option Reading) (l : Line)
    → apart_from_meters (line_output n number form w off l)
    ≡ apart_from_meters (line_output n number form w other l)
output_alike n number form w off other (line.Happens event) = refl
output_alike n number form w off other (line.Settle rounds moment) = refl
output_alike n number form w off other (line.Show id) = refl
output_alike n number form w off other line.Quiet = refl
output_alike n number form w off other (line.Trace next) = refl
output_alike n number form w off other (line.MeterOff meter) =
    off_alike number (line_head number form (line.MeterOff meter)) off other

lines_alike : (n number : ℕ) (form : Form) (some others : Readings) (w : World) (ls : List Line)
    → apart_from_meters (journal_lines n number form some w ls)
    ≡ apart_from_meters (journal_lines n number form others w ls)
lines_alike n number form some others w [] =
    let asked = printed.Asked word.End (quiet_of n w) ∷ [] in
    both asked (reading_lines some)
    ∙ ap (λ (ls : List JournalLine). apart_from_meters asked ++ ls)
    (none_of_readings some ∙ sym (none_of_readings others))
    ∙ sym (both asked (reading_lines others))
lines_alike n number form some others w (l ∷ ls) =
    let own : Readings → List JournalLine = (λ rs. line_output n number form w (off_by rs l) l) in
    let rest : Readings → List JournalLine =
    (λ rs. journal_lines n (number + 1) (form_from form l) (readings_behind n w rs l) (after_line n w l) ls) in
    both (own some) (rest some)
    ∙ ap₂ (λ (xs ys : List JournalLine). xs ++ ys)
    (output_alike n number form w (off_by some l) (off_by others l) l)
    (lines_alike n (number + 1) (form_from form l) (readings_behind n w some l) (readings_behind n w others l) (after_line n w l) ls)
    ∙ sym (both (own others) (rest others))

pub journals_alike : (servers : ℕ) → JournalsAreAlike servers
journals_alike servers lines meters others =
    lines_alike servers 2 Short (map Some meters) (map Some others) (start servers) lines
