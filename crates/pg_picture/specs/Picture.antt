-- The picture of a whole journal.
use Rattle.std.specs.Prelude.{ℕ, ◌+◌, false, List, [], ◌∷◌, ◌++◌, Option, None, Some, if◌then◌else◌, length, slice_get}
use Rattle.pg_trace.specs.declared.journal_line.JournalLine.{JournalLine}
use Rattle.pg_picture.specs.Course.{after, lack_of}
use Rattle.pg_picture.specs.Part.{is_ended}
use Rattle.pg_picture.specs.Sketch.{drawn, hanging}
use Rattle.pg_picture.specs.declared.course.Course.{Course}
use Rattle.pg_picture.specs.declared.lack.Lack.{Lack}
use Rattle.pg_picture.specs.declared.lack.Lack.TheVariants as lack
use Rattle.pg_picture.specs.declared.mark.LegEnd.TheVariants as ending
use Rattle.pg_picture.specs.declared.part.Part.TheVariants as part
use Rattle.pg_picture.specs.declared.sketch.Sketch.{Sketch}

-- before the first line of a full journal, which is of the schedule's third line: its second asks
-- for the form. At most 2,000 events are drawn
abbrev pub start : Course
start = record { line = 2; settles = false; before = part.Outside; left = 2000 }

-- nothing is drawn
abbrev pub empty : Sketch
empty = record {
  servers = 1;
  row = 0;
  height = 0;
  bag = [];
  removed = [];
  marks = [];
  legs = [];
  notes = [];
}

-- the ways of what is still under way
abbrev pub hung : Sketch → Sketch
hung s = record s {
  height = s.height + 1 + length s.bag;
  legs = s.legs ++ hanging ending.UnderWay (s.height + 1) s.bag;
}

-- what comes of a journal: its picture, or the number of the first line that lacks something, and
-- what
pub data Drawing : Type 0 where
  Drawn : Sketch → Drawing
  Lacking : ℕ → Lack → Drawing

abbrev pub or_lack : Option Lack → ℕ → Drawing → Drawing
or_lack None number drawing = drawing
or_lack (Some lack) number drawing = Lacking number lack

-- the same of the lines from the one with this number on
abbrev pub draw_from : ℕ → Course → Sketch → List JournalLine → Drawing
draw_from number course sketch [] =
    if is_ended course.before then Drawn (hung sketch) else Lacking number lack.End
draw_from number course sketch (line ∷ rest) =
    or_lack (lack_of course sketch.bag line (slice_get rest 0)) number
    (draw_from (number + 1) (after course line) (drawn sketch line (slice_get rest 0)) rest)

abbrev pub draw : List JournalLine → Drawing
draw journal = draw_from 1 start empty journal
