-- How calls and replies are spelled.
use Rattle.std.specs.Prelude.{ℕ, ◌≡◌, ◌<◌, ◌≤◌, ◌^◌, List, ◌++◌, length}
use Rattle.std.specs.List.{AllByRecursion}
use Rattle.pg_base.specs.Id.{Fits, spelling}
use Rattle.pg_base.specs.declared.id.FileId.{FileId}
use Rattle.pg_call.specs.Call.{target_word}
use Rattle.pg_call.specs.declared.call.Call.{Call}
use Rattle.pg_call.specs.declared.call.Call.TheVariants as call
use Rattle.pg_call.specs.declared.call.Target.{Target}
use Rattle.pg_call.specs.declared.call.Target.TheVariants as target
use Rattle.pg_call.specs.pg_intent.declared.kind.IntentKind.{IntentKind}
use Rattle.pg_call.specs.pg_intent.declared.kind.IntentKind.TheVariants as intent
use Rattle.pg_call.specs.declared.refusal.Refusal.{Refusal}
use Rattle.pg_call.specs.declared.refusal.Refusal.TheVariants as refusal
use Rattle.pg_call.specs.declared.refusal.Unsettled.{Unsettled}
use Rattle.pg_call.specs.declared.refusal.Unsettled.TheVariants as unsettled
use Rattle.pg_call.specs.declared.reply.Counts.{Counts}
use Rattle.pg_call.specs.declared.reply.Reply.{Reply}
use Rattle.pg_call.specs.declared.reply.Reply.TheVariants as reply
use Rattle.pg_call.specs.declared.reply.Stat.{Stat}
use Rattle.pg_codec.specs.Spelling.{number_bytes, flag_bytes, file_bytes, stamp_bytes}
use Rattle.pg_path.specs.declared.row.Row.{Row}
use Rattle.pg_words.specs.PlaceWords.{IsPlace}
use Rattle.pg_packet_write.specs.Fields.{counted, listed, policy_bytes}

-- the text of a path or a shown name
unfoldable pub text_bytes : List ℕ → List ℕ
text_bytes text = counted 2 text

-- the number of the call and its words in order
unfoldable pub call_bytes : Call → List ℕ
call_bytes (call.Mkdir path) = number_bytes 1 1 ++ text_bytes path
call_bytes (call.Create path policy) = number_bytes 1 2 ++ (text_bytes path ++ policy_bytes policy)
call_bytes (call.Write path offset bytes) =
    number_bytes 1 3 ++ (text_bytes path ++ (number_bytes 4 offset ++ counted 4 bytes))
call_bytes (call.Cut path n) = number_bytes 1 4 ++ (text_bytes path ++ number_bytes 4 n)
call_bytes (call.Read path offset count) =
    number_bytes 1 5 ++ (text_bytes path ++ (number_bytes 4 offset ++ number_bytes 4 count))
call_bytes (call.Fresh path) = number_bytes 1 6 ++ text_bytes path
call_bytes (call.Ls path from) = number_bytes 1 7 ++ (text_bytes path ++ number_bytes 4 from)
call_bytes (call.Stat what) = number_bytes 1 8 ++ text_bytes (target_word what)
call_bytes (call.Rename from to) = number_bytes 1 9 ++ (text_bytes from ++ text_bytes to)
call_bytes (call.Unlink path) = number_bytes 1 10 ++ text_bytes path
call_bytes (call.Rmdir path) = number_bytes 1 11 ++ text_bytes path
call_bytes (call.Forget id) = number_bytes 1 12 ++ file_bytes id
call_bytes (call.Demote what) = number_bytes 1 13 ++ text_bytes (target_word what)
call_bytes (call.Drop what) = number_bytes 1 14 ++ text_bytes (target_word what)
call_bytes (call.Giveup view server) =
    number_bytes 1 15 ++ (number_bytes 8 view ++ number_bytes 4 server)
call_bytes call.Status = number_bytes 1 17
call_bytes call.Stop = number_bytes 1 18

unfoldable pub row_bytes : Row → List ℕ
row_bytes row = text_bytes row.name ++ file_bytes row.child

-- id, place, whether gold, golds, heads, length, edges. The place has its stamp, its parent, its
-- name and whether it is live, as its text has them.
unfoldable pub stat_bytes : Stat → List ℕ
stat_bytes s = file_bytes s.id ++ (stamp_bytes s.place.stamp ++ (file_bytes s.place.parent
    ++ (counted 1 s.place.name ++ (flag_bytes s.place.live ++ (flag_bytes s.gold
    ++ (number_bytes 8 s.golds ++ (number_bytes 8 s.heads ++ (number_bytes 8 s.length
    ++ number_bytes 8 s.edges))))))))

-- view, last, replicas, intentions, cells, places held back
unfoldable pub counts_bytes : Counts → List ℕ
counts_bytes c = number_bytes 8 c.view ++ (number_bytes 8 c.last ++ (number_bytes 8 c.replicas
    ++ (number_bytes 8 c.intents ++ (number_bytes 8 c.cells ++ number_bytes 8 c.held))))

abbrev pub intent_number : IntentKind → ℕ
intent_number intent.Bye = 1
intent_number intent.Seek = 2
intent_number intent.Fill = 3
intent_number intent.Patch = 4
intent_number intent.Confirm = 5
intent_number intent.Leave = 6

abbrev pub unsettled_number : Unsettled → ℕ
unsettled_number (unsettled.Intent kind) = intent_number kind
unsettled_number unsettled.Cell = 7

-- the number of the refusal, and its values
unfoldable pub refusal_bytes : Refusal → List ℕ
refusal_bytes (refusal.BadPath component) = number_bytes 1 1 ++ number_bytes 1 component
refusal_bytes refusal.ClockEnd = number_bytes 1 2
refusal_bytes (refusal.NotYet id) = number_bytes 1 3 ++ file_bytes id
refusal_bytes (refusal.NoName component) = number_bytes 1 4 ++ number_bytes 1 component
refusal_bytes (refusal.NotDir component) = number_bytes 1 5 ++ number_bytes 1 component
refusal_bytes refusal.IsDir = number_bytes 1 6
refusal_bytes refusal.Root = number_bytes 1 7
refusal_bytes (refusal.Exists id) = number_bytes 1 8 ++ file_bytes id
refusal_bytes refusal.DirFull = number_bytes 1 9
refusal_bytes (refusal.NotEmpty id) = number_bytes 1 10 ++ file_bytes id
refusal_bytes refusal.Loop = number_bytes 1 11
refusal_bytes refusal.TooLong = number_bytes 1 12
refusal_bytes (refusal.Behind stamp) = number_bytes 1 13 ++ stamp_bytes stamp
refusal_bytes refusal.IsGold = number_bytes 1 14
refusal_bytes refusal.LastGold = number_bytes 1 15
refusal_bytes (refusal.HasChild id) = number_bytes 1 16 ++ file_bytes id
refusal_bytes (refusal.Unsettled what id peer) =
    number_bytes 1 17 ++ (number_bytes 1 (unsettled_number what)
    ++ (file_bytes id ++ number_bytes 4 peer))
refusal_bytes refusal.Held = number_bytes 1 18
refusal_bytes (refusal.WrongView view) = number_bytes 1 19 ++ number_bytes 8 view
refusal_bytes refusal.ManyActors = number_bytes 1 20

-- the number of the reply, and its fields in the order of its text
unfoldable pub reply_bytes : Reply → List ℕ
reply_bytes reply.Done = number_bytes 1 1
reply_bytes (reply.Made id) = number_bytes 1 2 ++ file_bytes id
reply_bytes (reply.Wrote stamp) = number_bytes 1 3 ++ stamp_bytes stamp
reply_bytes (reply.Bytes bytes) = number_bytes 1 4 ++ counted 4 bytes
reply_bytes (reply.Names total rows) =
    number_bytes 1 5 ++ (number_bytes 4 total ++ listed 1 row_bytes rows)
reply_bytes (reply.Stat stat) = number_bytes 1 6 ++ stat_bytes stat
reply_bytes (reply.Leaving server) = number_bytes 1 7 ++ number_bytes 4 server
reply_bytes (reply.Status counts) = number_bytes 1 8 ++ counts_bytes counts
reply_bytes (reply.Refused why) = number_bytes 1 9 ++ refusal_bytes why

-- a text whose length takes two bytes
abbrev pub FitsText : List ℕ → Type 0
FitsText text = length text < 2 ^ 16

-- no id is spelled so
abbrev pub SpellsNone : List ℕ → Type 0
SpellsNone text = (id : FileId) → Fits id → text ≡ spelling id → ⊥

-- any id, and a path that is spelled as no id
abbrev pub FitsTarget : Target → Type 0
FitsTarget (target.Path text) = FitsText text × SpellsNone text
FitsTarget (target.Id id) = Unit {0}

-- what has a spelling
abbrev pub FitsCall : Call → Type 0
FitsCall (call.Mkdir path) = FitsText path
FitsCall (call.Create path policy) = FitsText path
FitsCall (call.Write path offset bytes) = FitsText path
FitsCall (call.Cut path n) = FitsText path
FitsCall (call.Read path offset count) = FitsText path
FitsCall (call.Fresh path) = FitsText path
FitsCall (call.Ls path from) = FitsText path
FitsCall (call.Stat what) = FitsTarget what
FitsCall (call.Rename from to) = FitsText from × FitsText to
FitsCall (call.Unlink path) = FitsText path
FitsCall (call.Rmdir path) = FitsText path
FitsCall (call.Forget id) = Unit {0}
FitsCall (call.Demote what) = FitsTarget what
FitsCall (call.Drop what) = FitsTarget what
FitsCall (call.Giveup view server) = Unit {0}
FitsCall call.Status = Unit {0}
FitsCall call.Stop = Unit {0}

-- at most 100 rows
pub record FitRows (rows : List Row) : Type 0 where
  pub few : length rows ≤ 100
  pub each : AllByRecursion (λ (row : Row). FitsText row.name) rows

abbrev pub FitsReply : Reply → Type 0
FitsReply reply.Done = Unit {0}
FitsReply (reply.Made id) = Unit {0}
FitsReply (reply.Wrote stamp) = Unit {0}
FitsReply (reply.Bytes bytes) = length bytes ≤ 32768
FitsReply (reply.Names total rows) = FitRows rows
FitsReply (reply.Stat stat) = IsPlace stat.place
FitsReply (reply.Leaving server) = Unit {0}
FitsReply (reply.Status counts) = Unit {0}
FitsReply (reply.Refused why) = Unit {0}
