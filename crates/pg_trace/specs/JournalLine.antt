-- A line of a journal: what it is spelled as.
use Rattle.std.specs.Prelude.{ℕ, ◌≡◌, ◌<◌, ◌^◌, List, [], ◌∷◌, ◌++◌, decimal, codes}
use Rattle.std.specs.List.{join_with_byte, AllByRecursion, flat_map}
use Rattle.pg_base.specs.Id as id
use Rattle.pg_base.specs.declared.id.Kind.{Kind}
use Rattle.pg_base.specs.declared.id.Kind.TheVariants.{Dir, File}
use Rattle.pg_call.specs.Call as call
use Rattle.pg_call.specs.Reply.{reply_words, IsReply, IsTickReply}
use Rattle.pg_event.specs.Entry.{void_word}
use Rattle.pg_event.specs.Meter.{meter_word}
use Rattle.pg_event.specs.Quiet.{quiet_words, IsAnswer}
use Rattle.pg_msg.specs.Text.{summary_words, IsSummary}
use Rattle.pg_msg.specs.UpdateText.{update_spelling, IsUpdate}
use Rattle.pg_sched.specs.Line.{line_words, IsLine}
use Rattle.pg_trace.specs.declared.journal_line.AskedAt.{AskedAt}
use Rattle.pg_trace.specs.declared.journal_line.AskedAt.TheVariants as word
use Rattle.pg_trace.specs.declared.journal_line.JournalLine.{JournalLine}
use Rattle.pg_trace.specs.declared.journal_line.JournalLine.TheVariants.{Event, Call, Tick, Void, Made, Sent, Asked, Replica, Nowhere, Meter}
use Rattle.pg_trace.specs.declared.replica.ShownReplica.{ShownReplica}
use Rattle.pg_trace.specs.declared.replica.ShownContent.{ShownContent}
use Rattle.pg_trace.specs.declared.replica.ShownContent.TheVariants as contents
use Rattle.pg_words.specs.ChoiceWord.{full_word, gold_word}
use Rattle.pg_words.specs.HexWord.{hex_word, AreAtMost}
use Rattle.pg_words.specs.PlaceWords.{IsPlace, place_words}
use Rattle.pg_words.specs.StampWord.{IsStamp, stamps_word}

abbrev pub asked_word : AskedAt → List ℕ
asked_word word.Settle = codes "settle"
asked_word word.Quiet = codes "quiet"
asked_word word.End = codes "end"

-- what a file shows: the stamps of its heads, how many bytes are shown, and the first of them; what
-- a directory shows: how many names
abbrev pub contents_words : ShownContent → List (List ℕ)
contents_words (contents.File heads count bytes) =
    codes "heads" ∷ stamps_word heads ∷ codes "shown" ∷ decimal count ∷ hex_word bytes ∷ []
contents_words (contents.Dir count) = codes "lists" ∷ decimal count ∷ []

-- a replica that a server holds: whether it is gold and full, its place, and what it shows
abbrev pub replica_words : ShownReplica → List (List ℕ)
replica_words r =
    codes "at" ∷ decimal r.server ∷ id.spelling r.id ∷ gold_word r.gold ∷ full_word r.full
    ∷ codes "place" ∷ (place_words r.place ++ contents_words r.contents)

abbrev pub printed_words : JournalLine → List (List ℕ)
printed_words (Event line what) = codes "event" ∷ decimal line ∷ line_words what
printed_words (Call kind server reply) =
    codes "call" ∷ decimal server ∷ call.kind_word kind ∷ codes "->" ∷ reply_words reply
printed_words (Tick server reply) = codes "tick" ∷ decimal server ∷ codes "->" ∷ reply_words reply
printed_words (Void line cause) = codes "void" ∷ decimal line ∷ void_word cause ∷ []
printed_words (Made update) = codes "made" ∷ update_spelling update
printed_words (Sent summary) = codes "sent" ∷ summary_words summary
printed_words (Asked word quiet) = asked_word word ∷ quiet_words quiet
printed_words (Replica r) = replica_words r
printed_words (Nowhere what) = codes "at" ∷ codes "-" ∷ id.spelling what ∷ []
printed_words (Meter kind value) = codes "meter" ∷ meter_word kind ∷ decimal value ∷ []

-- the words with a space between two of them
abbrev pub printed_body : JournalLine → List ℕ
printed_body printed = join_with_byte 32 (printed_words printed)

-- a line with its end
abbrev pub printed_text : JournalLine → List ℕ
printed_text printed = printed_body printed ++ 10 ∷ []

-- a whole journal
abbrev pub journal_spelling : List JournalLine → List ℕ
journal_spelling lines = flat_map printed_text lines

-- the first bytes of a body: at most 16 are shown
abbrev pub AreFirst : List ℕ → Type 0
AreFirst bytes = AreAtMost 16 bytes

-- a file shows heads and bytes, and a directory names
abbrev pub IsContents : Kind → ShownContent → Type 0
IsContents File (contents.File heads count bytes) =
    AllByRecursion IsStamp heads × (count < 2 ^ 64) × AreFirst bytes
IsContents Dir (contents.Dir count) = count < 2 ^ 64
IsContents File (contents.Dir count) = ⊥
IsContents Dir (contents.File heads count bytes) = ⊥

pub record IsReplica (r : ShownReplica) : Type 0 where
  pub server : r.server < 2 ^ 32
  pub id_fits : id.Fits r.id
  pub place : IsPlace r.place
  pub contents_fit : IsContents r.id.kind r.contents

-- what has a spelling
abbrev pub IsPrinted : JournalLine → Type 0
IsPrinted (Event line what) = (line < 2 ^ 64) × IsLine what
IsPrinted (Call kind server reply) = (server < 2 ^ 32) × IsReply reply
IsPrinted (Tick server reply) = (server < 2 ^ 32) × IsTickReply reply
IsPrinted (Void line cause) = line < 2 ^ 64
IsPrinted (Made update) = IsUpdate update
IsPrinted (Sent summary) = IsSummary summary
IsPrinted (Asked word quiet) = IsAnswer quiet
IsPrinted (Replica r) = IsReplica r
IsPrinted (Nowhere what) = id.Fits what
IsPrinted (Meter kind value) = value < 2 ^ 64

abbrev pub ArePrinted : List JournalLine → Type 0
ArePrinted lines = AllByRecursion IsPrinted lines
