-- What is written beside the rows of the picture.
use Rattle.std.specs.Prelude.{ℕ, Bool, true, false, List, [], ◌++◌, Option, None, Some, codes, length, take, nat_le, if◌then◌else◌}
use Rattle.pg_call.specs.declared.reply.Reply.{Reply}
use Rattle.pg_call.specs.declared.reply.Reply.TheVariants as reply
use Rattle.pg_call.specs.Reply.{reply_body}
use Rattle.pg_event.specs.Entry.{void_word}
use Rattle.pg_event.specs.Quiet.{quiet_body}
use Rattle.pg_event.specs.declared.quiet.Quiet.{Quiet}
use Rattle.pg_sched.specs.declared.line.Line.{Line}
use Rattle.pg_sched.specs.Line.{line_body}
use Rattle.pg_trace.specs.declared.journal_line.JournalLine.{JournalLine}
use Rattle.pg_trace.specs.declared.journal_line.JournalLine.TheVariants as printed
use Rattle.pg_trace.specs.declared.journal_line.AskedAt.{AskedAt}
use Rattle.pg_trace.specs.declared.journal_line.AskedAt.TheVariants as word
use Rattle.pg_trace.specs.JournalLine.{printed_body}
use Rattle.pg_picture.specs.declared.note.Outcome.{Outcome}
use Rattle.pg_picture.specs.declared.note.Outcome.TheVariants.{Done, Refused, Void}

abbrev pub reply_outcome : Reply → Outcome
reply_outcome (reply.Refused refusal) = Refused
reply_outcome _ = Done

-- how an event went, as the line behind its own tells
abbrev pub line_outcome : JournalLine → Outcome
line_outcome (printed.Call kind server reply) = reply_outcome reply
line_outcome (printed.Tick server reply) = reply_outcome reply
line_outcome (printed.Void line cause) = Void
line_outcome _ = Done

abbrev pub outcome_of : Option JournalLine → Outcome
outcome_of None = Done
outcome_of (Some line) = line_outcome line

abbrev pub is_void : Outcome → Bool
is_void Void = true
is_void _ = false

abbrev pub is_done : Outcome → Bool
is_done Done = true
is_done _ = false

-- a long text is cut, and ends with three dots
abbrev pub shortened : List ℕ → List ℕ
shortened text = if nat_le (length text) 64 then text else take 64 text ++ codes "..."

abbrev pub asked_answer : AskedAt → Quiet → List ℕ
asked_answer word.Quiet state = codes " -> " ++ quiet_body state
asked_answer _ state = []

-- what the line behind an event's own tells of it: the reply, why it is void, or whether all is
-- done
abbrev pub line_answer : JournalLine → List ℕ
line_answer (printed.Call kind server reply) = codes " -> " ++ reply_body reply
line_answer (printed.Tick server reply) = codes " -> " ++ reply_body reply
line_answer (printed.Void line cause) = codes " -> void " ++ void_word cause
line_answer (printed.Asked word state) = asked_answer word state
line_answer _ = []

abbrev pub answer : Option JournalLine → List ℕ
answer None = []
answer (Some line) = line_answer line

-- beside an event stands its line of the schedule, and what is told of it
abbrev pub event_text : Line → Option JournalLine → List ℕ
event_text what next = shortened (line_body what) ++ shortened (answer next)

abbrev pub line_text : JournalLine → List ℕ
line_text line = shortened (printed_body line)
