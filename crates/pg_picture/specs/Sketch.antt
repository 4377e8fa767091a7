-- What is drawn of each line of a journal.
use Rattle.std.specs.Prelude.{ℕ, ◌+◌, false, not, List, [], ◌∷◌, ◌++◌, Option, None, Some, filter, length, max, nat_lt, if◌then◌else◌}
use Rattle.pg_event.specs.declared.event.Event.{Event}
use Rattle.pg_event.specs.declared.event.Event.TheVariants as event
use Rattle.pg_msg.specs.declared.summary.Summary.{Summary}
use Rattle.pg_sched.specs.declared.line.Line.{Line}
use Rattle.pg_sched.specs.declared.line.Line.TheVariants as line
use Rattle.pg_trace.specs.declared.journal_line.JournalLine.{JournalLine}
use Rattle.pg_trace.specs.declared.journal_line.JournalLine.TheVariants as printed
use Rattle.pg_trace.specs.declared.journal_line.AskedAt.{AskedAt}
use Rattle.pg_trace.specs.declared.journal_line.AskedAt.TheVariants as word
use Rattle.pg_picture.specs.Course.{event_server, greatest_server}
use Rattle.pg_picture.specs.Messages.{is_for, is_gone, message_at, with_copy, without, without_to}
use Rattle.pg_picture.specs.Note.{event_text, is_done, is_void, line_text, outcome_of}
use Rattle.pg_picture.specs.declared.mark.Leg.{Leg}
use Rattle.pg_picture.specs.declared.mark.LegEnd.{LegEnd}
use Rattle.pg_picture.specs.declared.mark.LegEnd.TheVariants as ending
use Rattle.pg_picture.specs.declared.mark.Mark.{Mark}
use Rattle.pg_picture.specs.declared.mark.MarkKind.{MarkKind}
use Rattle.pg_picture.specs.declared.mark.MarkKind.TheVariants as kind
use Rattle.pg_picture.specs.declared.mark.Note.{Note}
use Rattle.pg_picture.specs.declared.messages.Message.{Message}
use Rattle.pg_picture.specs.declared.note.Outcome.{Outcome}
use Rattle.pg_picture.specs.declared.note.Outcome.TheVariants as outcome
use Rattle.pg_picture.specs.declared.sketch.Sketch.{Sketch}

-- ---- marks: one for each event

abbrev pub happening_kind : Event → MarkKind
happening_kind (event.Call server moment call) = kind.Call
happening_kind (event.Tick server moment word) = kind.Tick
happening_kind (event.Deliver number) = kind.Deliver
happening_kind (event.Lose number) = kind.Lose
happening_kind (event.Repeat number) = kind.Repeat
happening_kind (event.Restart server) = kind.Restart
happening_kind (event.Remove server) = kind.Remove

abbrev pub line_kind : Line → MarkKind
line_kind (line.Happens event) = happening_kind event
line_kind _ = kind.Asked

-- an event that went so
abbrev pub kind_of : Line → Outcome → MarkKind
kind_of what outcome.Done = line_kind what
kind_of what outcome.Refused = kind.Refused
kind_of what outcome.Void = kind.Void

-- the receiver, or 0
abbrev pub receiver : Option Message → ℕ
receiver None = 0
receiver (Some m) = m.summary.to

-- the server at which an event happens: for a delivery the receiver
abbrev pub happening_column : List Message → Event → ℕ → ℕ
happening_column bag (event.Deliver number) server = receiver (message_at bag number)
happening_column bag _ server = server

abbrev pub line_column : List Message → Line → ℕ → ℕ
line_column bag (line.Happens event) server = happening_column bag event server
line_column bag _ server = server

abbrev pub column_of : List Message → Line → Outcome → ℕ
column_of bag what outcome =
    if is_void outcome then 0 else line_column bag what (event_server what outcome)

abbrev pub mark_of : List Message → ℕ → ℕ → Line → Outcome → Mark
mark_of bag height number what outcome = record {
  height = height;
  line = number;
  server = column_of bag what outcome;
  kind = kind_of what outcome;
}

abbrev pub marks_after : Sketch → JournalLine → Option JournalLine → List Mark
marks_after s (printed.Event number what) next =
    s.marks ++ mark_of s.bag (s.height + 2) number what (outcome_of next) ∷ []
marks_after s _ next = s.marks

-- ---- the ways of messages

-- and a piece of a way that ends at this height
abbrev pub with_leg : List Leg → ℕ → LegEnd → Option Message → List Leg
with_leg legs height end None = legs
with_leg legs height end (Some m) =
    legs ++ record { message = m; until = height; end = end } ∷ []

-- pieces of ways that all end so, each a line lower than the one before
abbrev pub hanging : LegEnd → ℕ → List Message → List Leg
hanging end height [] = []
hanging end height (m ∷ ms) =
    record { message = m; until = height + 1; end = end } ∷ hanging end (height + 1) ms

-- an arrow where a message is delivered, a cross where it is lost, a fork where it is copied, and
-- crosses where the receiver is removed
abbrev pub happening_legs : List Leg → List Message → ℕ → Event → List Leg
happening_legs legs bag height (event.Deliver number) =
    with_leg legs height ending.Delivered (message_at bag number)
happening_legs legs bag height (event.Lose number) =
    with_leg legs height ending.Lost (message_at bag number)
happening_legs legs bag height (event.Repeat number) =
    with_leg legs height ending.Copied (message_at bag number)
happening_legs legs bag height (event.Remove server) =
    legs ++ hanging ending.Fallen height (filter (is_for server) bag)
happening_legs legs bag height _ = legs

abbrev pub line_legs : List Leg → List Message → ℕ → Line → List Leg
line_legs legs bag height (line.Happens event) = happening_legs legs bag height event
line_legs legs bag height _ = legs

-- what is sent
abbrev pub sent_now : Sketch → Summary → Message
sent_now s summary = record { summary = summary; since = s.row; split = false }

-- what is sent to a removed server has a cross at once
abbrev pub sent_legs : Sketch → Summary → List Leg
sent_legs s summary =
    if is_gone s.removed summary.to
    then s.legs ++ record
    { message = sent_now s summary; until = s.height + 1; end = ending.Fallen } ∷ []
    else s.legs

-- a void event moves nothing
abbrev pub legs_after : Sketch → JournalLine → Option JournalLine → List Leg
legs_after s (printed.Event number what) next =
    if is_void (outcome_of next) then s.legs else line_legs s.legs s.bag (s.height + 2) what
legs_after s (printed.Sent summary) next = sent_legs s summary
legs_after s _ next = s.legs

-- what is under way behind an event: what was delivered or lost is not, what was
-- repeated is twice, and nothing is for a removed server
abbrev pub happening_bag : List Message → ℕ → Event → List Message
happening_bag bag height (event.Deliver number) = without bag number (message_at bag number)
happening_bag bag height (event.Lose number) = without bag number (message_at bag number)
happening_bag bag height (event.Repeat number) =
    with_copy bag number height (message_at bag number)
happening_bag bag height (event.Remove server) = without_to server bag
happening_bag bag height _ = bag

abbrev pub line_bag : List Message → ℕ → Line → List Message
line_bag bag height (line.Happens event) = happening_bag bag height event
line_bag bag height _ = bag

abbrev pub sent_bag : Sketch → Summary → List Message
sent_bag s summary =
    if is_gone s.removed summary.to then s.bag else s.bag ++ sent_now s summary ∷ []

abbrev pub bag_after : Sketch → JournalLine → Option JournalLine → List Message
bag_after s (printed.Event number what) next =
    if is_void (outcome_of next) then s.bag else line_bag s.bag (s.height + 2) what
bag_after s (printed.Sent summary) next = sent_bag s summary
bag_after s _ next = s.bag

-- ---- removed servers

abbrev pub happening_removed : List ℕ → Event → List ℕ
happening_removed removed (event.Remove server) = removed ++ server ∷ []
happening_removed removed _ = removed

abbrev pub line_removed : List ℕ → Line → List ℕ
line_removed removed (line.Happens event) = happening_removed removed event
line_removed removed _ = removed

abbrev pub removed_after : Sketch → JournalLine → Option JournalLine → List ℕ
removed_after s (printed.Event number what) next =
    if is_void (outcome_of next) then s.removed else line_removed s.removed what
removed_after s _ next = s.removed

-- ---- notes

abbrev pub word_rise : AskedAt → ℕ
word_rise word.Settle = 2
word_rise word.Quiet = 0
word_rise word.End = 2

-- how much lower a line stands than what was drawn before it: 0 where it has no note of its own
abbrev pub rise : JournalLine → ℕ
rise (printed.Event number what) = 2
rise (printed.Made update) = 1
rise (printed.Replica replica) = 1
rise (printed.Nowhere id) = 1
rise (printed.Meter kind value) = 1
rise (printed.Asked word state) = word_rise word
rise _ = 0

-- and the note of a line that has one
abbrev pub with_note : List Note → ℕ → JournalLine → List Note
with_note notes height line =
    if nat_lt 0 (rise line)
    then notes ++ record { height = height; refused = false; text = line_text line } ∷ []
    else notes

abbrev pub event_note : ℕ → Line → Option JournalLine → Note
event_note height what next = record {
  height = height;
  refused = not (is_done (outcome_of next));
  text = event_text what next;
}

abbrev pub notes_after : Sketch → JournalLine → Option JournalLine → List Note
notes_after s (printed.Event number what) next = s.notes ++ event_note (s.height + 2) what next ∷ []
notes_after s line next = with_note s.notes (s.height + rise line) line

-- ---- heights

-- each message that ends because its receiver is removed has a line of its own
abbrev pub happening_height : List Message → ℕ → Event → ℕ
happening_height bag height (event.Remove server) = height + length (filter (is_for server) bag)
happening_height bag height _ = height

abbrev pub line_height : List Message → ℕ → Line → ℕ
line_height bag height (line.Happens event) = happening_height bag height event
line_height bag height _ = height

abbrev pub sent_height : Sketch → Summary → ℕ
sent_height s summary = if is_gone s.removed summary.to then s.height + 1 else s.height

abbrev pub height_after : Sketch → JournalLine → Option JournalLine → ℕ
height_after s (printed.Event number what) next =
    if is_void (outcome_of next) then s.height + 2 else line_height s.bag (s.height + 2) what
height_after s (printed.Sent summary) next = sent_height s summary
height_after s line next = s.height + rise line

-- ---- all of it

-- the height of the last event
abbrev pub row_after : Sketch → JournalLine → ℕ
row_after s (printed.Event number what) = s.height + 2
row_after s _ = s.row

-- the picture with this line, which has that one behind it
abbrev pub drawn : Sketch → JournalLine → Option JournalLine → Sketch
drawn s line next = record {
  servers = max s.servers (greatest_server line next);
  row = row_after s line;
  height = height_after s line next;
  bag = bag_after s line next;
  removed = removed_after s line next;
  marks = marks_after s line next;
  legs = legs_after s line next;
  notes = notes_after s line next;
}

-- ---- by kinds of lines

-- a message more is under way, unless it is to a removed server
abbrev pub with_sent : Sketch → Summary → Sketch
with_sent s summary = record s
    { height = sent_height s summary; bag = sent_bag s summary; legs = sent_legs s summary }

-- a line that is no event's and sends nothing
abbrev pub with_told : Sketch → JournalLine → Sketch
with_told s line = record s
    { height = s.height + rise line; notes = with_note s.notes (s.height + rise line) line }

-- an event, whose message goes at the height at hand
abbrev pub with_moved : Sketch → Line → Sketch
with_moved s what = record s {
  height = line_height s.bag s.height what;
  bag = line_bag s.bag s.height what;
  removed = line_removed s.removed what;
  legs = line_legs s.legs s.bag s.height what;
}

abbrev pub with_gone : Sketch → Event → Sketch
with_gone s event = record s {
  height = happening_height s.bag s.height event;
  bag = happening_bag s.bag s.height event;
  removed = happening_removed s.removed event;
  legs = happening_legs s.legs s.bag s.height event;
}

abbrev pub with_fallen : Sketch → ℕ → Sketch
with_fallen s server = record s {
  height = s.height + length (filter (is_for server) s.bag);
  bag = without_to server s.bag;
  removed = s.removed ++ server ∷ [];
  legs = s.legs ++ hanging ending.Fallen s.height (filter (is_for server) s.bag);
}

abbrev pub with_event : Sketch → ℕ → Line → Option JournalLine → Sketch
with_event s number what next = record s {
  row = s.height + 2;
  height = height_after s (printed.Event number what) next;
  bag = bag_after s (printed.Event number what) next;
  removed = removed_after s (printed.Event number what) next;
  marks = marks_after s (printed.Event number what) next;
  legs = legs_after s (printed.Event number what) next;
  notes = notes_after s (printed.Event number what) next;
}

abbrev pub with_ended : Sketch → ℕ → ℕ → LegEnd → Sketch
with_ended s number height end = record s {
  bag = without s.bag number (message_at s.bag number);
  legs = with_leg s.legs height end (message_at s.bag number);
}

abbrev pub with_fork : Sketch → ℕ → ℕ → Sketch
with_fork s number height = record s {
  bag = with_copy s.bag number height (message_at s.bag number);
  legs = with_leg s.legs height ending.Copied (message_at s.bag number);
}
