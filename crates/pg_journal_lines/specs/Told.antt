-- The kinds of replies: the word that each begins with, and which words stand behind it.
use Rattle.std.specs.Prelude.{ℕ, ◌≡◌, ◌<◌, ◌≤◌, ◌^◌, List, [], ◌∷◌, length, map, decimal, codes}
use Rattle.std.specs.List.{AllByRecursion}
use Rattle.pg_base.specs.Id.{spelling, Fits}
use Rattle.pg_base.specs.StampText.{stamp_text}
use Rattle.pg_base.specs.declared.id.FileId.{FileId}
use Rattle.pg_base.specs.declared.stamp.Stamp.{Stamp}
use Rattle.pg_call.specs.Call.{IsPayload}
use Rattle.pg_call.specs.Refusal.{IsRefusal, refusal_words}
use Rattle.pg_call.specs.Reply.{IsCounts, IsRow, IsStat, counts_words, row_word, stat_words}
use Rattle.pg_call.specs.declared.refusal.Refusal.{Refusal}
use Rattle.pg_call.specs.declared.reply.Counts.{Counts}
use Rattle.pg_call.specs.declared.reply.Reply.{Reply}
use Rattle.pg_call.specs.declared.reply.Reply.TheVariants as reply
use Rattle.pg_call.specs.declared.reply.Stat.{Stat}
use Rattle.pg_call.specs.declared.reply.ReplyKind.{ReplyKind}
use Rattle.pg_call.specs.declared.reply.ReplyKind.TheVariants as kind
use Rattle.pg_path.specs.declared.row.Row.{Row}
use Rattle.pg_words.specs.HexWord.{hex_word}
use Rattle.pg_words.specs.StampWord.{IsStamp}

abbrev pub reply_kind : Reply → ReplyKind
reply_kind reply.Done = kind.Done
reply_kind (reply.Made id) = kind.Made
reply_kind (reply.Wrote stamp) = kind.Wrote
reply_kind (reply.Bytes bytes) = kind.Bytes
reply_kind (reply.Names total rows) = kind.Names
reply_kind (reply.Stat stat) = kind.Stat
reply_kind (reply.Leaving server) = kind.Leaving
reply_kind (reply.Status counts) = kind.Status
reply_kind (reply.Refused refusal) = kind.Refused

abbrev pub head_word : ReplyKind → List ℕ
head_word kind.Done = codes "done"
head_word kind.Made = codes "made"
head_word kind.Wrote = codes "wrote"
head_word kind.Bytes = codes "bytes"
head_word kind.Names = codes "names"
head_word kind.Stat = codes "stat"
head_word kind.Leaving = codes "leaving"
head_word kind.Status = codes "status"
head_word kind.Refused = codes "refused"

-- how many golds a replica sees, and how many heads, bytes and edges it has
abbrev pub tally_words : ℕ → ℕ → ℕ → ℕ → List (List ℕ)
tally_words golds heads bytes edges =
    codes "golds" ∷ decimal golds ∷ codes "heads" ∷ decimal heads
    ∷ codes "length" ∷ decimal bytes ∷ codes "edges" ∷ decimal edges ∷ []

abbrev pub IsBytesWord : List (List ℕ) → Type 0
IsBytesWord words = (bytes : List ℕ) × IsPayload bytes × (words ≡ hex_word bytes ∷ [])

abbrev pub AreNames : List (List ℕ) → Type 0
AreNames words =
    (total : ℕ) × (rows : List Row) × (total < 2 ^ 32) × (length rows ≤ 100)
    × AllByRecursion IsRow rows × (words ≡ decimal total ∷ map row_word rows)

abbrev pub AreStat : List (List ℕ) → Type 0
AreStat words = (stat : Stat) × IsStat stat × (codes "stat" ∷ words ≡ stat_words stat)

abbrev pub AreCounts : List (List ℕ) → Type 0
AreCounts words = (counts : Counts) × IsCounts counts
    × (codes "status" ∷ words ≡ counts_words counts)

-- what stands behind the first word of a reply of the kind
abbrev pub IsTold : ReplyKind → List (List ℕ) → Type 0
IsTold kind.Done words = words ≡ []
IsTold kind.Made words = (id : FileId) × Fits id × (words ≡ spelling id ∷ [])
IsTold kind.Wrote words = (stamp : Stamp) × IsStamp stamp × (words ≡ stamp_text stamp ∷ [])
IsTold kind.Bytes words = IsBytesWord words
IsTold kind.Names words = AreNames words
IsTold kind.Stat words = AreStat words
IsTold kind.Leaving words = (server : ℕ) × (server < 2 ^ 32) × (words ≡ decimal server ∷ [])
IsTold kind.Status words = AreCounts words
IsTold kind.Refused words =
    (refusal : Refusal) × IsRefusal refusal × (codes "refused" ∷ words ≡ refusal_words refusal)
