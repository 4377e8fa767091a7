-- A full journal: whether a line may stand where it does.
use Rattle.std.specs.Prelude.{ℕ, ◌-◌, ◌==◌, ◌&&◌, ◌||◌, Bool, true, false, not, List, [], ◌∷◌, Option, None, Some, is_some, if◌then◌else◌, length, max, nat_lt}
use Rattle.pg_event.specs.declared.event.Event.{Event}
use Rattle.pg_event.specs.declared.event.Event.TheVariants as event
use Rattle.pg_event.specs.declared.quiet.Cause.{Cause}
use Rattle.pg_event.specs.declared.quiet.Cause.TheVariants as cause
use Rattle.pg_event.specs.declared.quiet.Quiet.{Quiet}
use Rattle.pg_event.specs.declared.quiet.Quiet.TheVariants as quiet
use Rattle.pg_msg.specs.declared.summary.Summary.{Summary}
use Rattle.pg_sched.specs.declared.line.Line.{Line}
use Rattle.pg_sched.specs.declared.line.Line.TheVariants as line
use Rattle.pg_trace.specs.declared.journal_line.JournalLine.{JournalLine}
use Rattle.pg_trace.specs.declared.journal_line.JournalLine.TheVariants as printed
use Rattle.pg_trace.specs.declared.journal_line.AskedAt.{AskedAt}
use Rattle.pg_trace.specs.declared.journal_line.AskedAt.TheVariants as word
use Rattle.pg_picture.specs.Messages.{message_at}
use Rattle.pg_picture.specs.Note.{outcome_of, is_void}
use Rattle.pg_picture.specs.Part.{may_follow, part_of}
use Rattle.pg_picture.specs.declared.course.Course.{Course}
use Rattle.pg_picture.specs.declared.lack.Lack.{Lack}
use Rattle.pg_picture.specs.declared.lack.Lack.TheVariants as lack
use Rattle.pg_picture.specs.declared.messages.Message.{Message}
use Rattle.pg_picture.specs.declared.note.Outcome.{Outcome}

-- the event's line of the schedule is the next one, or in a settling that of the settling
abbrev pub goes_on : Course → ℕ → Bool
goes_on c number = if c.settles then number == c.line else (number - c.line == 1)

-- the first message under way goes from this server to this one
abbrev pub goes_first : List Message → Summary → Bool
goes_first [] summary = false
goes_first (m ∷ ms) summary = m.summary.from == summary.from && m.summary.to == summary.to

abbrev pub cause_agrees : List Message → Cause → Bool
cause_agrees bag (cause.Message summary) = goes_first bag summary
cause_agrees bag _ = length bag == 0

-- what is told of the whole run can be so with these messages under way
abbrev pub agrees : List Message → Quiet → Bool
agrees bag quiet.Quiet = length bag == 0
agrees bag (quiet.Waits cause) = cause_agrees bag cause

-- behind a settling stands that it is over, and the end is in none
abbrev pub word_is_due : Course → AskedAt → Bool
word_is_due c word.Settle = c.settles
word_is_due c word.Quiet = true
word_is_due c word.End = not c.settles

abbrev pub is_due : Course → List Message → JournalLine → Bool
is_due c bag (printed.Event line what) = goes_on c line
is_due c bag (printed.Asked word state) = word_is_due c word && agrees bag state
is_due c bag _ = true

-- the server at which an event happens that is no delivery, or 0
abbrev pub happening_server : Event → ℕ
happening_server (event.Call server moment call) = server
happening_server (event.Tick server moment word) = server
happening_server (event.Deliver number) = 0
happening_server (event.Lose number) = 0
happening_server (event.Repeat number) = 0
happening_server (event.Restart server) = server
happening_server (event.Remove server) = server

abbrev pub line_server : Line → ℕ
line_server (line.Happens event) = happening_server event
line_server _ = 0

-- a void event happens nowhere
abbrev pub event_server : Line → Outcome → ℕ
event_server what outcome = if is_void outcome then 0 else line_server what

-- the greatest server that is drawn of a line
abbrev pub greatest_server : JournalLine → Option JournalLine → ℕ
greatest_server (printed.Event line what) next = event_server what (outcome_of next)
greatest_server (printed.Sent summary) next = max summary.from summary.to
greatest_server (printed.Replica replica) next = replica.server
greatest_server _ next = 0

-- there is such a message, where the event is one of a message
abbrev pub happening_has_message : List Message → Event → Bool
happening_has_message bag (event.Deliver number) = is_some (message_at bag number)
happening_has_message bag (event.Lose number) = is_some (message_at bag number)
happening_has_message bag (event.Repeat number) = is_some (message_at bag number)
happening_has_message bag _ = true

abbrev pub has_message : List Message → Line → Bool
has_message bag (line.Happens event) = happening_has_message bag event
has_message bag _ = true

abbrev pub event_lack : Course → List Message → Line → Outcome → Option Lack
event_lack c bag what outcome =
    if c.left == 0 then Some lack.Events
    else (if is_void outcome || has_message bag what then None else Some lack.Message)

abbrev pub other_lack : Course → List Message → JournalLine → Option JournalLine → Option Lack
other_lack c bag (printed.Event line what) next = event_lack c bag what (outcome_of next)
other_lack c bag _ next = None

-- what a line lacks that has this one behind it, if anything
abbrev pub lack_of : Course → List Message → JournalLine → Option JournalLine → Option Lack
lack_of c bag p next =
    if may_follow c.before (part_of p) && is_due c bag p
    then (if nat_lt 64 (greatest_server p next) then Some lack.Server else other_lack c bag p next)
    else Some lack.Full

abbrev pub is_settle : Line → Bool
is_settle (line.Settle rounds moment) = true
is_settle _ = false

abbrev pub is_settled : AskedAt → Bool
is_settled word.Settle = true
is_settled _ = false

abbrev pub settles_after : Course → JournalLine → Bool
settles_after c (printed.Event line what) = c.settles || is_settle what
settles_after c (printed.Asked word state) = c.settles && not (is_settled word)
settles_after c _ = c.settles

abbrev pub line_after : Course → JournalLine → ℕ
line_after c (printed.Event line what) = line
line_after c _ = c.line

abbrev pub left_after : Course → JournalLine → ℕ
left_after c (printed.Event line what) = c.left - 1
left_after c _ = c.left

abbrev pub after : Course → JournalLine → Course
after c p = record {
  line = line_after c p;
  settles = settles_after c p;
  before = part_of p;
  left = left_after c p;
}
