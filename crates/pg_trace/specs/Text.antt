-- What is written of a run, in the full form and in the short one.
use Rattle.std.specs.Prelude.{ℕ, List, [], ◌∷◌, ◌++◌, map, Option, Some, None}
use Rattle.std.specs.List.{flat_map}
use Rattle.pg_msg.specs.declared.message.Sent.{Sent}
use Rattle.pg_msg.specs.declared.update.Update.{Update}
use Rattle.pg_msg.specs.Sent.{summary}
use Rattle.pg_call.specs.Call.{call_kind}
use Rattle.pg_event.specs.declared.entry.Entry.{Entry}
use Rattle.pg_call.specs.declared.reply.Reply.{Reply}
use Rattle.pg_call.specs.declared.reply.Reply.TheVariants as reply
use Rattle.pg_event.specs.declared.entry.VoidCause.{VoidCause}
use Rattle.pg_event.specs.declared.event.Event.{Event}
use Rattle.pg_event.specs.declared.event.Event.TheVariants.{Call, Tick, Deliver, Lose, Repeat, Restart, Remove}
use Rattle.pg_sched.specs.declared.line.Form.{Form}
use Rattle.pg_sched.specs.declared.line.Form.TheVariants.{Full, Short}
use Rattle.pg_sched.specs.declared.line.Line.{Line}
use Rattle.pg_event.specs.declared.quiet.Quiet.{Quiet}
use Rattle.pg_trace.specs.declared.journal_line.AskedAt.{AskedAt}
use Rattle.pg_trace.specs.declared.journal_line.JournalLine.{JournalLine}
use Rattle.pg_trace.specs.declared.journal_line.JournalLine.TheVariants as printed
use Rattle.pg_trace.specs.JournalLine.{printed_text}

-- a tick is told of in full; in short only that it was refused
abbrev pub tick_lines : Form → ℕ → Reply → List JournalLine
tick_lines Full server answer = printed.Tick server answer ∷ []
tick_lines Short server (reply.Refused why) = printed.Tick server (reply.Refused why) ∷ []
tick_lines Short server reply.Done = []
tick_lines Short server (reply.Made id) = []
tick_lines Short server (reply.Wrote stamp) = []
tick_lines Short server (reply.Bytes bytes) = []
tick_lines Short server (reply.Names total rows) = []
tick_lines Short server (reply.Stat stat) = []
tick_lines Short server (reply.Leaving leaving) = []
tick_lines Short server (reply.Status counts) = []

-- what the client was told
abbrev pub told_lines : Form → Event → Option Reply → List JournalLine
told_lines form (Call server moment call) None = []
told_lines form (Call server moment call) (Some answer) =
    printed.Call (call_kind call) server answer ∷ []
told_lines form (Tick server moment word) None = []
told_lines form (Tick server moment word) (Some answer) = tick_lines form server answer
told_lines form (Deliver number) answer = []
told_lines form (Lose number) answer = []
told_lines form (Repeat number) answer = []
told_lines form (Restart server) answer = []
told_lines form (Remove server) answer = []

-- in full: all that was made, then each message that was sent
abbrev pub done_lines : Form → List Update → List Sent → List JournalLine
done_lines Full made sent = map printed.Made made ++ map (λ m. printed.Sent (summary m)) sent
done_lines Short made sent = []

abbrev pub outcome_lines : ℕ → Form → Option VoidCause → Entry → List JournalLine
outcome_lines line form (Some cause) entry = printed.Void line cause ∷ []
outcome_lines line form None entry =
    told_lines form entry.event entry.reply ++ done_lines form entry.made entry.sent

-- an entry, of the event on the line with this number
abbrev pub entry_lines : ℕ → Form → Entry → List JournalLine
entry_lines line form entry = outcome_lines line form entry.void entry

abbrev pub entry_text : ℕ → Form → Entry → List ℕ
entry_text line form entry = flat_map printed_text (entry_lines line form entry)

-- what stands in front of a line's output: in full the line itself
abbrev pub head_lines : ℕ → Form → Line → List JournalLine
head_lines line Full what = printed.Event line what ∷ []
head_lines line Short what = []

abbrev pub head_text : ℕ → Form → Line → List ℕ
head_text line form what = flat_map printed_text (head_lines line form what)

-- what is said of whether all is done, at a settling, at a question, and at the end
abbrev pub quiet_text : AskedAt → Quiet → List ℕ
quiet_text word quiet = printed_text (printed.Asked word quiet)
