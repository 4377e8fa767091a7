-- What a client is told: what it is spelled as.
use Rattle.std.specs.Prelude.{ℕ, ◌≡◌, ◌<◌, ◌≤◌, ◌^◌, List, [], ◌∷◌, ◌++◌, length, map, decimal, codes}
use Rattle.std.specs.List.{AllByRecursion, join_with_byte, flat_map}
use Rattle.pg_base.specs.Id.{spelling, Fits}
use Rattle.pg_base.specs.StampText.{stamp_text}
use Rattle.pg_call.specs.Call.{IsPayload}
use Rattle.pg_call.specs.Refusal.{IsRefusal, refusal_words}
use Rattle.pg_call.specs.declared.refusal.Refusal.TheVariants.{ClockEnd}
use Rattle.pg_call.specs.declared.reply.Stat.{Stat}
use Rattle.pg_call.specs.declared.reply.Counts.{Counts}
use Rattle.pg_call.specs.declared.reply.Reply.{Reply}
use Rattle.pg_call.specs.declared.reply.Reply.TheVariants as reply
use Rattle.pg_path.specs.Path.{IsComponent}
use Rattle.pg_path.specs.declared.row.Row.{Row}
use Rattle.pg_words.specs.ChoiceWord.{gold_word}
use Rattle.pg_words.specs.HexWord.{hex_word}
use Rattle.pg_words.specs.PlaceWords.{IsPlace, place_words}
use Rattle.pg_words.specs.StampWord.{IsStamp}

-- a name and whose it is. An id has no `=`, so the last one in the word parts them
abbrev pub row_word : Row → List ℕ
row_word row = row.name ++ 61 ∷ spelling row.child

-- each with a space in front
abbrev pub rows_text : List Row → List ℕ
rows_text rows = flat_map (λ (row : Row). 32 ∷ row_word row) rows

abbrev pub stat_words : Stat → List (List ℕ)
stat_words s =
    codes "stat" ∷ spelling s.id ∷ (place_words s.place ++ gold_word s.gold
    ∷ codes "golds" ∷ decimal s.golds ∷ codes "heads" ∷ decimal s.heads
    ∷ codes "length" ∷ decimal s.length ∷ codes "edges" ∷ decimal s.edges ∷ [])

abbrev pub counts_words : Counts → List (List ℕ)
counts_words c =
    codes "status" ∷ codes "view" ∷ decimal c.view ∷ codes "last" ∷ decimal c.last
    ∷ codes "replicas" ∷ decimal c.replicas ∷ codes "intents" ∷ decimal c.intents
    ∷ codes "cells" ∷ decimal c.cells ∷ codes "held" ∷ decimal c.held ∷ []

-- what a client is told
abbrev pub reply_words : Reply → List (List ℕ)
reply_words reply.Done = codes "done" ∷ []
reply_words (reply.Made id) = codes "made" ∷ spelling id ∷ []
reply_words (reply.Wrote stamp) = codes "wrote" ∷ stamp_text stamp ∷ []
reply_words (reply.Bytes bytes) = codes "bytes" ∷ hex_word bytes ∷ []
reply_words (reply.Names total rows) = codes "names" ∷ decimal total ∷ map row_word rows
reply_words (reply.Stat stat) = stat_words stat
reply_words (reply.Leaving server) = codes "leaving" ∷ decimal server ∷ []
reply_words (reply.Status counts) = counts_words counts
reply_words (reply.Refused refusal) = refusal_words refusal

-- the words with a space between two of them
abbrev pub reply_body : Reply → List ℕ
reply_body answer = join_with_byte 32 (reply_words answer)

-- what has a spelling
pub record IsRow (row : Row) : Type 0 where
  pub name : IsComponent row.name
  pub child : Fits row.child

pub record IsStat (s : Stat) : Type 0 where
  pub id : Fits s.id
  pub place : IsPlace s.place
  pub golds : s.golds < 2 ^ 64
  pub heads : s.heads < 2 ^ 64
  pub count : s.length < 2 ^ 64
  pub edges : s.edges < 2 ^ 64

pub record IsCounts (c : Counts) : Type 0 where
  pub view : c.view < 2 ^ 64
  pub last : c.last < 2 ^ 64
  pub replicas : c.replicas < 2 ^ 64
  pub intents : c.intents < 2 ^ 64
  pub cells : c.cells < 2 ^ 64
  pub held : c.held < 2 ^ 64

-- what somebody may be told: at most 100 names at once, and no more bytes than one read has
abbrev pub IsReply : Reply → Type 0
IsReply reply.Done = Unit {0}
IsReply (reply.Made id) = Fits id
IsReply (reply.Wrote stamp) = IsStamp stamp
IsReply (reply.Bytes bytes) = IsPayload bytes
IsReply (reply.Names total rows) =
    (total < 2 ^ 32) × (length rows ≤ 100) × AllByRecursion IsRow rows
IsReply (reply.Stat stat) = IsStat stat
IsReply (reply.Leaving server) = server < 2 ^ 32
IsReply (reply.Status counts) = IsCounts counts
IsReply (reply.Refused refusal) = IsRefusal refusal

-- a tick makes no version, and is refused at the clock's end alone
abbrev pub IsTickReply : Reply → Type 0
IsTickReply reply.Done = Unit {0}
IsTickReply (reply.Made id) = ⊥
IsTickReply (reply.Wrote stamp) = ⊥
IsTickReply (reply.Bytes bytes) = ⊥
IsTickReply (reply.Names total rows) = ⊥
IsTickReply (reply.Stat stat) = ⊥
IsTickReply (reply.Leaving server) = ⊥
IsTickReply (reply.Status counts) = ⊥
IsTickReply (reply.Refused refusal) = refusal ≡ ClockEnd
