-- A full journal: which line may follow which.
use Rattle.std.specs.Prelude.{Bool, true, false, not}
use Rattle.pg_event.specs.declared.event.Event.{Event}
use Rattle.pg_event.specs.declared.event.Event.TheVariants as event
use Rattle.pg_sched.specs.declared.line.Line.{Line}
use Rattle.pg_sched.specs.declared.line.Line.TheVariants as line
use Rattle.pg_trace.specs.declared.journal_line.JournalLine.{JournalLine}
use Rattle.pg_trace.specs.declared.journal_line.JournalLine.TheVariants as printed
use Rattle.pg_trace.specs.declared.journal_line.AskedAt.{AskedAt}
use Rattle.pg_trace.specs.declared.journal_line.AskedAt.TheVariants as word
use Rattle.pg_picture.specs.declared.part.Part.{Part}
use Rattle.pg_picture.specs.declared.part.Part.TheVariants.{Outside, Call, Tick, Deliver, Other, Settle, Quiet, Show, Meter, Called, Ticked, Void, Made, Sent, Shown, Metered, Asked, Settled, Ended}

abbrev pub happening_part : Event → Part
happening_part (event.Call server moment call) = Call
happening_part (event.Tick server moment word) = Tick
happening_part (event.Deliver number) = Deliver
happening_part (event.Lose number) = Other
happening_part (event.Repeat number) = Other
happening_part (event.Restart server) = Other
happening_part (event.Remove server) = Other

-- a line that sets the form is in no journal
abbrev pub event_part : Line → Part
event_part (line.Happens event) = happening_part event
event_part (line.Settle rounds moment) = Settle
event_part line.Quiet = Quiet
event_part (line.Trace form) = Outside
event_part (line.Show id) = Show
event_part (line.MeterOff meter) = Meter

abbrev pub word_part : AskedAt → Part
word_part word.Settle = Settled
word_part word.Quiet = Asked
word_part word.End = Ended

-- what a line of a journal is
abbrev pub part_of : JournalLine → Part
part_of (printed.Event line what) = event_part what
part_of (printed.Call kind server reply) = Called
part_of (printed.Tick server reply) = Ticked
part_of (printed.Void line cause) = Void
part_of (printed.Made update) = Made
part_of (printed.Sent summary) = Sent
part_of (printed.Asked word state) = word_part word
part_of (printed.Replica replica) = Shown
part_of (printed.Nowhere id) = Shown
part_of (printed.Meter kind value) = Metered

-- the event of a call is answered, one of a tick is, and so on
abbrev pub is_call : Part → Bool
is_call Call = true
is_call _ = false

abbrev pub is_tick : Part → Bool
is_tick Tick = true
is_tick _ = false

abbrev pub is_quiet : Part → Bool
is_quiet Quiet = true
is_quiet _ = false

abbrev pub is_meter : Part → Bool
is_meter Meter = true
is_meter _ = false

abbrev pub is_ended : Part → Bool
is_ended Ended = true
is_ended _ = false

-- each event may be void, and a meter that is turned off
abbrev pub may_be_void : Part → Bool
may_be_void Call = true
may_be_void Tick = true
may_be_void Deliver = true
may_be_void Other = true
may_be_void Meter = true
may_be_void _ = false

-- what was made is told behind a delivery, an answer, and what else was made
abbrev pub may_make : Part → Bool
may_make Deliver = true
may_make Called = true
may_make Ticked = true
may_make Made = true
may_make _ = false

-- what was sent is told behind all of that, and behind what else was sent
abbrev pub may_send : Part → Bool
may_send Sent = true
may_send part = may_make part

-- what is shown is told behind the line that asks for it, and what else is shown
abbrev pub may_show : Part → Bool
may_show Show = true
may_show Shown = true
may_show _ = false

-- the second may stand behind the first. Nothing stands behind the end
abbrev pub may_follow : Part → Part → Bool
may_follow before Outside = false
may_follow before Called = is_call before
may_follow before Ticked = is_tick before
may_follow before Void = may_be_void before
may_follow before Made = may_make before
may_follow before Sent = may_send before
may_follow before Shown = may_show before
may_follow before Metered = is_meter before
may_follow before Asked = is_quiet before
may_follow before _ = not (is_ended before)
