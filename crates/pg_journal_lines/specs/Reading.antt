-- A line of a journal as it is read: by its first word, and then by the words behind it.
use Rattle.std.specs.Prelude.{ℕ, ◌≡◌, List, [], ◌∷◌, ◌++◌, decimal, codes}
use Rattle.pg_base.specs.Id as id
use Rattle.pg_call.specs.declared.reply.Reply.{Reply}
use Rattle.pg_call.specs.Call as call
use Rattle.pg_call.specs.declared.call.CallKind.{CallKind}
use Rattle.pg_call.specs.Reply.{reply_words}
use Rattle.pg_event.specs.Entry.{void_word}
use Rattle.pg_event.specs.Meter.{meter_word}
use Rattle.pg_event.specs.Quiet.{quiet_words}
use Rattle.pg_msg.specs.Text.{summary_words}
use Rattle.pg_msg.specs.UpdateText.{update_spelling}
use Rattle.pg_sched.specs.Line.{line_words}
use Rattle.pg_trace.specs.declared.journal_line.JournalLine.{JournalLine}
use Rattle.pg_trace.specs.declared.journal_line.JournalLine.TheVariants as printed
use Rattle.pg_trace.specs.JournalLine.{asked_word, contents_words, IsPrinted}
use Rattle.pg_journal_lines.specs.declared.verb.Verb.{Verb}
use Rattle.pg_journal_lines.specs.declared.verb.Verb.TheVariants.{Event, Call, Tick, Void, Made, Sent, Asked, At, Meter}
use Rattle.pg_words.specs.ChoiceWord.{full_word, gold_word}
use Rattle.pg_words.specs.PlaceWords.{place_words}

-- the word that a verb is
abbrev pub verb_word : Verb → List ℕ
verb_word Event = codes "event"
verb_word Tick = codes "tick"
verb_word Void = codes "void"
verb_word Made = codes "made"
verb_word Sent = codes "sent"
verb_word (Asked word) = asked_word word
verb_word Call = codes "call"
verb_word At = codes "at"
verb_word Meter = codes "meter"

-- the verb of a line
abbrev pub verb_of : JournalLine → Verb
verb_of (printed.Event line what) = Event
verb_of (printed.Tick server reply) = Tick
verb_of (printed.Void line cause) = Void
verb_of (printed.Made update) = Made
verb_of (printed.Sent summary) = Sent
verb_of (printed.Asked word answer) = Asked word
verb_of (printed.Call kind server reply) = Call
verb_of (printed.Replica replica) = At
verb_of (printed.Nowhere id) = At
verb_of (printed.Meter kind value) = Meter

-- more words than any line has that is no event: a call that lists 100 names has 106
abbrev pub too_many : ℕ
too_many = 107

-- what was told
abbrev pub answer_words : Reply → List (List ℕ)
answer_words reply = codes "->" ∷ reply_words reply

-- a server, and what it told
abbrev pub told_words : ℕ → Reply → List (List ℕ)
told_words server reply = decimal server ∷ answer_words reply

-- the words of a line behind the first
abbrev pub words_behind : JournalLine → List (List ℕ)
words_behind (printed.Event line what) = decimal line ∷ line_words what
words_behind (printed.Call kind server reply) =
    decimal server ∷ call.kind_word kind ∷ answer_words reply
words_behind (printed.Tick server reply) = told_words server reply
words_behind (printed.Void line cause) = decimal line ∷ void_word cause ∷ []
words_behind (printed.Made update) = update_spelling update
words_behind (printed.Sent summary) = summary_words summary
words_behind (printed.Asked word answer) = quiet_words answer
words_behind (printed.Replica r) =
    decimal r.server ∷ id.spelling r.id ∷ gold_word r.gold ∷ full_word r.full
    ∷ codes "place" ∷ (place_words r.place ++ contents_words r.contents)
words_behind (printed.Nowhere what) = codes "-" ∷ id.spelling what ∷ []
words_behind (printed.Meter kind value) = meter_word kind ∷ decimal value ∷ []

-- the verb with these words behind it is the line
pub record Reads (v : Verb) (words : List (List ℕ)) (line : JournalLine) : Type 0 where
  pub fits : IsPrinted line
  pub verb : verb_of line ≡ v
  pub behind : words ≡ words_behind line

-- an event's line, with these texts for its number and for the schedule's line
abbrev pub event_text : List ℕ → List ℕ → List ℕ
event_text number what = codes "event" ++ 32 ∷ (number ++ 32 ∷ what)
