-- What a journal says of events and messages, told without a picture; and that what is drawn is
-- that.
use Rattle.std.specs.Prelude.{ℕ, ◌≡◌, ◌+◌, ◌==◌, ◌&&◌, Bool, true, false, not, List, [], ◌∷◌, ◌++◌, Option, None, Some, if◌then◌else◌, filter, length, map, slice_get}
use Rattle.std.specs.List.{flat_map}
use Rattle.pg_event.specs.declared.event.Event.{Event}
use Rattle.pg_event.specs.declared.event.Event.TheVariants as event
use Rattle.pg_msg.specs.declared.summary.Summary.{Summary}
use Rattle.pg_sched.specs.declared.line.Line.{Line}
use Rattle.pg_sched.specs.declared.line.Line.TheVariants as line
use Rattle.pg_trace.specs.declared.journal_line.JournalLine.{JournalLine}
use Rattle.pg_trace.specs.declared.journal_line.JournalLine.TheVariants as printed
use Rattle.pg_picture.specs.Messages.{is_gone, message_at, without}
use Rattle.pg_picture.specs.Note.{is_void, outcome_of}
use Rattle.pg_picture.specs.declared.mark.Leg.{Leg}
use Rattle.pg_picture.specs.declared.mark.LegEnd.{LegEnd}
use Rattle.pg_picture.specs.declared.mark.LegEnd.TheVariants as ending
use Rattle.pg_picture.specs.declared.sketch.Sketch.{Sketch}

-- ---- events

-- the numbers of the schedule's lines of all events, in order
abbrev pub number_of : JournalLine → List ℕ
number_of (printed.Event number what) = number ∷ []
number_of _ = []

abbrev pub numbers_of : List JournalLine → List ℕ
numbers_of journal = flat_map number_of journal

abbrev pub line_event : Line → Option Event
line_event (line.Happens event) = Some event
line_event _ = None

-- the event that a line tells of, unless the line behind it says that it is void
abbrev pub happened : JournalLine → Option JournalLine → Option Event
happened (printed.Event number what) next =
    if is_void (outcome_of next) then None else line_event what
happened _ next = None

-- ---- removed servers

-- behind an event
abbrev pub gone_by : List ℕ → Event → List ℕ
gone_by removed (event.Remove server) = removed ++ server ∷ []
gone_by removed _ = removed

abbrev pub gone : List ℕ → Option Event → List ℕ
gone removed None = removed
gone removed (Some event) = gone_by removed event

-- ---- messages under way, the one that was sent first in front

-- to this server
abbrev pub is_to : ℕ → Summary → Bool
is_to server m = m.to == server

abbrev pub copied : List Summary → Option Summary → List Summary
copied bag None = bag
copied bag (Some m) = bag ++ m ∷ []

abbrev pub moved_by : List Summary → Event → List Summary
moved_by bag (event.Deliver number) = without bag number (message_at bag number)
moved_by bag (event.Lose number) = without bag number (message_at bag number)
moved_by bag (event.Repeat number) = copied bag (message_at bag number)
moved_by bag (event.Remove server) = filter (λ m. not (is_to server m)) bag
moved_by bag _ = bag

abbrev pub moved : List Summary → Option Event → List Summary
moved bag None = bag
moved bag (Some event) = moved_by bag event

-- behind a line of the journal: what is sent to a removed server never is
abbrev pub under_way : List ℕ → List Summary → JournalLine → Option JournalLine → List Summary
under_way removed bag (printed.Sent summary) next =
    if is_gone removed summary.to then bag else bag ++ summary ∷ []
under_way removed bag line next = moved bag (happened line next)

-- ---- how messages end

abbrev pub is_same_end : LegEnd → LegEnd → Bool
is_same_end ending.Delivered ending.Delivered = true
is_same_end ending.Lost ending.Lost = true
is_same_end ending.Copied ending.Copied = true
is_same_end ending.Fallen ending.Fallen = true
is_same_end ending.UnderWay ending.UnderWay = true
is_same_end a b = false

abbrev pub listed : Option Summary → List Summary
listed None = []
listed (Some m) = m ∷ []

-- the message that an event delivers, loses or repeats, or those to the server that it removes, by
-- the ending that is asked for
abbrev pub ended_by : LegEnd → List Summary → Event → List Summary
ended_by ending.Delivered bag (event.Deliver number) = listed (message_at bag number)
ended_by ending.Lost bag (event.Lose number) = listed (message_at bag number)
ended_by ending.Copied bag (event.Repeat number) = listed (message_at bag number)
ended_by ending.Fallen bag (event.Remove server) = filter (is_to server) bag
ended_by end bag event = []

abbrev pub event_ended : LegEnd → List Summary → Option Event → List Summary
event_ended end bag None = []
event_ended end bag (Some event) = ended_by end bag event

-- what is sent to a removed server ends at once
abbrev pub sent_ended : LegEnd → Bool → Summary → List Summary
sent_ended end late summary =
    if late && is_same_end end ending.Fallen then summary ∷ [] else []

abbrev pub line_ended :
    LegEnd → List ℕ → List Summary → JournalLine → Option JournalLine → List Summary
line_ended end removed bag (printed.Sent summary) next =
    sent_ended end (is_gone removed summary.to) summary
line_ended end removed bag line next = event_ended end bag (happened line next)

-- at the end of the journal all that is still under way ends so
abbrev pub left_over : LegEnd → List Summary → List Summary
left_over ending.UnderWay bag = bag
left_over end bag = []

-- all messages that end so, in order, from a line on in front of which these servers are removed,
-- and these messages are under way
abbrev pub ended_from : LegEnd → List ℕ → List Summary → List JournalLine → List Summary
ended_from end removed bag [] = left_over end bag
ended_from end removed bag (line ∷ rest) =
    line_ended end removed bag line (slice_get rest 0)
    ++ ended_from end (gone removed (happened line (slice_get rest 0)))
    (under_way removed bag line (slice_get rest 0)) rest

-- of a whole journal: in front of its first line no server is removed, and no message under way
abbrev pub ended : LegEnd → List JournalLine → List Summary
ended end journal = ended_from end [] [] journal

-- ---- how many events of a kind there are

abbrev pub ends : LegEnd → Event → Bool
ends ending.Delivered (event.Deliver number) = true
ends ending.Lost (event.Lose number) = true
ends ending.Copied (event.Repeat number) = true
ends end event = false

abbrev pub count_of : LegEnd → Option Event → ℕ
count_of end None = 0
count_of end (Some event) = if ends end event then 1 else 0

-- how many events deliver, lose or repeat a message, void ones not counted
abbrev pub count : LegEnd → List JournalLine → ℕ
count end [] = 0
count end (line ∷ rest) = count_of end (happened line (slice_get rest 0)) + count end rest

-- ---- what is drawn

-- the message of a way that is drawn to such an end
abbrev pub way : LegEnd → Leg → List Summary
way end leg = if is_same_end end leg.end then leg.message.summary ∷ [] else []

abbrev pub ways : LegEnd → List Leg → List Summary
ways end legs = flat_map (way end) legs

-- One mark for each event, in order. One arrow for each message that was delivered, one cross for
-- each that was lost, one more for each whose receiver is removed, when it is or before it was
-- sent, one fork for each that was repeated, one open end for each that is still under way, and no
-- other; and as many arrows, crosses of lost messages and forks as the journal has such events.
pub record IsWholePicture (journal : List JournalLine) (s : Sketch) : Type 0 where
  pub marks : map (λ m. m.line) s.marks ≡ numbers_of journal
  pub arrows : ways ending.Delivered s.legs ≡ ended ending.Delivered journal
  pub crosses : ways ending.Lost s.legs ≡ ended ending.Lost journal
  pub falls : ways ending.Fallen s.legs ≡ ended ending.Fallen journal
  pub forks : ways ending.Copied s.legs ≡ ended ending.Copied journal
  pub open_ends : ways ending.UnderWay s.legs ≡ ended ending.UnderWay journal
  pub deliveries : length (ways ending.Delivered s.legs) ≡ count ending.Delivered journal
  pub losses : length (ways ending.Lost s.legs) ≡ count ending.Lost journal
  pub repeats : length (ways ending.Copied s.legs) ≡ count ending.Copied journal
