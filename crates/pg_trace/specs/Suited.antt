-- What the types of an entry leave open, of what has to be so that all that is written of it has a
-- spelling. The types say that numbers, stamps, ids and bytes are in their ranges, and that ranges
-- have their parts in order.
use Rattle.std.specs.Prelude.{ℕ, ◌≡◌, ◌≤◌, ◌⊎◌, [], length, Option, None, Some}
use Rattle.std.specs.List.{AllByRecursion}
use Rattle.pg_base.specs.Id.{Fits}
use Rattle.pg_base.specs.declared.id.FileId.{FileId}
use Rattle.pg_base.specs.declared.id.Kind.{Kind}
use Rattle.pg_base.specs.declared.id.Kind.TheVariants.{Dir, File}
use Rattle.pg_call.specs.Reply.{IsTickReply}
use Rattle.pg_call.specs.declared.reply.Reply.{Reply}
use Rattle.pg_call.specs.declared.reply.Reply.TheVariants as reply
use Rattle.pg_event.specs.declared.entry.Entry.{Entry}
use Rattle.pg_event.specs.declared.event.Event.{Event}
use Rattle.pg_event.specs.declared.event.Event.TheVariants.{Call, Tick, Deliver, Lose, Repeat, Restart, Remove}
use Rattle.pg_event.specs.declared.quiet.Cause.{Cause}
use Rattle.pg_event.specs.declared.quiet.Cause.TheVariants as cause
use Rattle.pg_event.specs.declared.quiet.Quiet.{Quiet}
use Rattle.pg_event.specs.declared.quiet.Quiet.TheVariants as quiet
use Rattle.pg_msg.specs.Sent.{summary}
use Rattle.pg_msg.specs.Text.{sort_of, IsAbout, IsDetail, IsKey}
use Rattle.pg_msg.specs.declared.summary.Detail.{Detail}
use Rattle.pg_msg.specs.declared.summary.Detail.TheVariants as detail
use Rattle.pg_msg.specs.declared.summary.Summary.{Summary}
use Rattle.pg_msg.specs.declared.update.Update.{Update}
use Rattle.pg_msg.specs.declared.update.Update.TheVariants as update
use Rattle.pg_path.specs.Name.{IsClientName}
use Rattle.pg_path.specs.Path.{IsComponent}
use Rattle.pg_path.specs.declared.row.Row.{Row}
use Rattle.pg_register.specs.Place.{tilde_name}
use Rattle.pg_register.specs.declared.place.Place.{Place}
use Rattle.pg_trace.specs.declared.replica.ShownContent.{ShownContent}
use Rattle.pg_trace.specs.declared.replica.ShownContent.TheVariants as contents
use Rattle.pg_trace.specs.declared.replica.ShownReplica.{ShownReplica}
use Rattle.pg_words.specs.StampWord.{IsStamp}

-- a thing stands in a directory, and has no name, a client's name, or the one that is made of its
-- id
pub record SuitsPlace (file : FileId) (place : Place) : Type 0 where
  pub parent : place.parent.kind ≡ Dir
  pub name : (place.name ≡ []) ⊎ (IsClientName place.name ⊎ (place.name ≡ tilde_name file))

-- a name that a directory shows
abbrev pub SuitsRow : Row → Type 0
SuitsRow row = Fits row.child → IsComponent row.name

-- so many bytes may be read at once, and so many names listed
abbrev pub most_bytes : ℕ
most_bytes = 32768

abbrev pub most_rows : ℕ
most_rows = 100

-- what whoever calls may be told
abbrev pub IsCallAnswer : Reply → Type 0
IsCallAnswer reply.Done = Unit {0}
IsCallAnswer (reply.Made id) = Unit {0}
IsCallAnswer (reply.Wrote stamp) = Unit {0}
IsCallAnswer (reply.Bytes bytes) = length bytes ≤ most_bytes
IsCallAnswer (reply.Names total rows) = (length rows ≤ most_rows) × AllByRecursion SuitsRow rows
IsCallAnswer (reply.Stat stat) = SuitsPlace stat.id stat.place
IsCallAnswer (reply.Leaving server) = Unit {0}
IsCallAnswer (reply.Status counts) = Unit {0}
IsCallAnswer (reply.Refused refusal) = Unit {0}

-- the answer is one to what was asked
abbrev pub Answers : Event → Option Reply → Type 0
Answers (Call server moment call) None = Unit {0}
Answers (Call server moment call) (Some answer) = IsCallAnswer answer
Answers (Tick server moment word) None = Unit {0}
Answers (Tick server moment word) (Some answer) = IsTickReply answer
Answers (Deliver number) answer = Unit {0}
Answers (Lose number) answer = Unit {0}
Answers (Repeat number) answer = Unit {0}
Answers (Restart server) answer = Unit {0}
Answers (Remove server) answer = Unit {0}

-- versions are made of files, and a place is one that its thing may have
abbrev pub SuitsUpdate : Update → Type 0
SuitsUpdate (update.Version made) = made.file.kind ≡ File
SuitsUpdate (update.Place file place) = SuitsPlace file place
SuitsUpdate (update.Flag file flag) = Unit {0}

-- the numbers of a detail are in their ranges
abbrev pub DetailFits : Detail → Type 0
DetailFits (detail.Key k) = IsKey k
DetailFits (detail.Stamp stamp) = IsStamp stamp
DetailFits (detail.Child child) = Fits child
DetailFits detail.Nothing = Unit {0}

-- with numbers in their ranges, what is told of a message goes by its kind: which sort of detail,
-- and that it is about a directory where it is about a directory's child
pub record SuitsKind (s : Summary) : Type 0 where
  pub about : Fits s.file → IsAbout s.kind s.file
  pub told : DetailFits s.detail → IsDetail (sort_of s.kind) s.detail

pub record IsSuited (entry : Entry) : Type 0 where
  pub told : Answers entry.event entry.reply
  pub made : AllByRecursion SuitsUpdate entry.made
  pub sent : AllByRecursion (λ m. SuitsKind (summary m)) entry.sent

-- what a run waits for
abbrev pub SuitsCause : Cause → Type 0
SuitsCause (cause.Message s) = SuitsKind s
SuitsCause (cause.View server view) = Unit {0}
SuitsCause (cause.Owed owing) = Unit {0}

abbrev pub SuitsQuiet : Quiet → Type 0
SuitsQuiet quiet.Quiet = Unit {0}
SuitsQuiet (quiet.Waits c) = SuitsCause c

-- a file shows at most so many bytes, and a directory names
abbrev pub most_shown : ℕ
most_shown = 16

abbrev pub SuitsContents : Kind → ShownContent → Type 0
SuitsContents File (contents.File heads count bytes) = length bytes ≤ most_shown
SuitsContents Dir (contents.Dir count) = Unit {0}
SuitsContents File (contents.Dir count) = ⊥
SuitsContents Dir (contents.File heads count bytes) = ⊥

pub record SuitsReplica (r : ShownReplica) : Type 0 where
  pub stands : SuitsPlace r.id r.place
  pub shows : SuitsContents r.id.kind r.contents
