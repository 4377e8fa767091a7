-- How it is written what a run waits for.
use Rattle.std.specs.Prelude.{ℕ, ◌<◌, ◌^◌, List, [], ◌∷◌, Option, None, Some, decimal, codes}
use Rattle.std.specs.List.{join_with_byte}
use Rattle.pg_base.specs.Id.{spelling, Fits}
use Rattle.pg_base.specs.declared.id.FileId.{FileId}
use Rattle.pg_call.specs.pg_intent.Kind.{intent_word}
use Rattle.pg_msg.specs.Text.{key_text, summary_words, IsKey, IsSummary}
use Rattle.pg_event.specs.declared.quiet.OwedIntent.{OwedIntent}
use Rattle.pg_event.specs.declared.quiet.OwedKey.{OwedKey}
use Rattle.pg_event.specs.declared.quiet.Owing.{Owing}
use Rattle.pg_event.specs.declared.quiet.Owing.TheVariants as owing
use Rattle.pg_event.specs.declared.quiet.Cause.{Cause}
use Rattle.pg_event.specs.declared.quiet.Cause.TheVariants as cause
use Rattle.pg_event.specs.declared.quiet.Quiet.{Quiet}
use Rattle.pg_event.specs.declared.quiet.Quiet.TheVariants as quiet

-- the child that an intention is about, or a dash
abbrev pub child_word : Option FileId → List ℕ
child_word None = codes "-"
child_word (Some child) = spelling child

-- an intention: the server, the kind, the file, the child if it is about one, and the server that
-- is asked
abbrev pub intent_words : OwedIntent → List (List ℕ)
intent_words o =
    codes "intent" ∷ decimal o.server ∷ intent_word o.kind ∷ spelling o.file
    ∷ child_word o.child ∷ decimal o.target ∷ []

-- an unacknowledged key: the server, the file, the peer and the key
abbrev pub key_words : OwedKey → List (List ℕ)
key_words o =
    codes "cell" ∷ decimal o.server ∷ spelling o.file ∷ decimal o.peer ∷ key_text o.key ∷ []

abbrev pub owing_words : Owing → List (List ℕ)
owing_words (owing.Intent o) = intent_words o
owing_words (owing.Key o) = key_words o
owing_words (owing.HeldBack server id) = codes "place" ∷ decimal server ∷ spelling id ∷ []

abbrev pub owing_body : Owing → List ℕ
owing_body o = join_with_byte 32 (owing_words o)

abbrev pub cause_words : Cause → List (List ℕ)
cause_words (cause.Message summary) = codes "message" ∷ summary_words summary
cause_words (cause.View server view) = codes "view" ∷ decimal server ∷ decimal view ∷ []
cause_words (cause.Owed o) = owing_words o

abbrev pub cause_body : Cause → List ℕ
cause_body c = join_with_byte 32 (cause_words c)

abbrev pub quiet_words : Quiet → List (List ℕ)
quiet_words quiet.Quiet = codes "quiet" ∷ []
quiet_words (quiet.Waits c) = codes "waits" ∷ cause_words c

abbrev pub quiet_body : Quiet → List ℕ
quiet_body q = join_with_byte 32 (quiet_words q)

-- what has a spelling
abbrev pub IsChild : Option FileId → Type 0
IsChild None = Unit {0}
IsChild (Some child) = Fits child

pub record IsOwedIntent (o : OwedIntent) : Type 0 where
  pub owes : o.server < 2 ^ 32
  pub about : Fits o.file
  pub child : IsChild o.child
  pub target : o.target < 2 ^ 32

pub record IsOwedKey (o : OwedKey) : Type 0 where
  pub owes : o.server < 2 ^ 32
  pub about : Fits o.file
  pub owed : o.peer < 2 ^ 32
  pub cell : IsKey o.key

abbrev pub IsOwing : Owing → Type 0
IsOwing (owing.Intent o) = IsOwedIntent o
IsOwing (owing.Key o) = IsOwedKey o
IsOwing (owing.HeldBack server id) = (server < 2 ^ 32) × Fits id

abbrev pub IsCause : Cause → Type 0
IsCause (cause.Message summary) = IsSummary summary
IsCause (cause.View server view) = (server < 2 ^ 32) × (view < 2 ^ 64)
IsCause (cause.Owed o) = IsOwing o

abbrev pub IsAnswer : Quiet → Type 0
IsAnswer quiet.Quiet = Unit {0}
IsAnswer (quiet.Waits c) = IsCause c
