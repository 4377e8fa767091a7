-- Why a server refuses what a client asks for: what it is spelled as.
use Rattle.std.specs.Prelude.{ℕ, ◌<◌, ◌^◌, List, [], ◌∷◌, decimal, codes}
use Rattle.pg_base.specs.Id.{spelling, Fits}
use Rattle.pg_base.specs.StampText.{stamp_text}
use Rattle.pg_call.specs.declared.refusal.Unsettled.{Unsettled}
use Rattle.pg_call.specs.declared.refusal.Unsettled.TheVariants as unsettled
use Rattle.pg_call.specs.declared.refusal.Refusal.{Refusal}
use Rattle.pg_call.specs.declared.refusal.Refusal.TheVariants as refusal
use Rattle.pg_intent.specs.Kind.{intent_word}
use Rattle.pg_words.specs.StampWord.{IsStamp}

abbrev pub unsettled_word : Unsettled → List ℕ
unsettled_word (unsettled.Intent kind) = intent_word kind
unsettled_word unsettled.Cell = codes "Cell"

-- a refusal's number, in the order in which the reasons are tried
abbrev pub number_word : Refusal → List ℕ
number_word (refusal.BadPath component) = codes "1"
number_word refusal.ClockEnd = codes "2"
number_word (refusal.NotYet id) = codes "3"
number_word (refusal.NoName component) = codes "4"
number_word (refusal.NotDir component) = codes "5"
number_word refusal.IsDir = codes "6"
number_word refusal.Root = codes "7"
number_word (refusal.Exists id) = codes "8"
number_word refusal.DirFull = codes "9"
number_word (refusal.NotEmpty id) = codes "10"
number_word refusal.Loop = codes "11"
number_word refusal.TooLong = codes "12"
number_word (refusal.Behind stamp) = codes "13"
number_word refusal.IsGold = codes "14"
number_word refusal.LastGold = codes "15"
number_word (refusal.HasChild id) = codes "16"
number_word (refusal.Unsettled what id peer) = codes "17"
number_word refusal.Held = codes "18"
number_word (refusal.WrongView view) = codes "19"
number_word refusal.ManyActors = codes "20"

-- its name, and the values that it has
abbrev pub reason_words : Refusal → List (List ℕ)
reason_words (refusal.BadPath component) = codes "BadPath" ∷ decimal component ∷ []
reason_words refusal.ClockEnd = codes "ClockEnd" ∷ []
reason_words (refusal.NotYet id) = codes "NotYet" ∷ spelling id ∷ []
reason_words (refusal.NoName component) = codes "NoName" ∷ decimal component ∷ []
reason_words (refusal.NotDir component) = codes "NotDir" ∷ decimal component ∷ []
reason_words refusal.IsDir = codes "IsDir" ∷ []
reason_words refusal.Root = codes "Root" ∷ []
reason_words (refusal.Exists id) = codes "Exists" ∷ spelling id ∷ []
reason_words refusal.DirFull = codes "DirFull" ∷ []
reason_words (refusal.NotEmpty id) = codes "NotEmpty" ∷ spelling id ∷ []
reason_words refusal.Loop = codes "Loop" ∷ []
reason_words refusal.TooLong = codes "TooLong" ∷ []
reason_words (refusal.Behind stamp) = codes "Behind" ∷ stamp_text stamp ∷ []
reason_words refusal.IsGold = codes "IsGold" ∷ []
reason_words refusal.LastGold = codes "LastGold" ∷ []
reason_words (refusal.HasChild id) = codes "HasChild" ∷ spelling id ∷ []
reason_words (refusal.Unsettled what id peer) =
    codes "Unsettled" ∷ unsettled_word what ∷ spelling id ∷ decimal peer ∷ []
reason_words refusal.Held = codes "Held" ∷ []
reason_words (refusal.WrongView view) = codes "WrongView" ∷ decimal view ∷ []
reason_words refusal.ManyActors = codes "ManyActors" ∷ []

abbrev pub refusal_words : Refusal → List (List ℕ)
refusal_words why = codes "refused" ∷ number_word why ∷ reason_words why

-- what has a spelling: the number of a component has 8 bits
abbrev pub IsRefusal : Refusal → Type 0
IsRefusal (refusal.BadPath component) = component < 2 ^ 8
IsRefusal refusal.ClockEnd = Unit {0}
IsRefusal (refusal.NotYet id) = Fits id
IsRefusal (refusal.NoName component) = component < 2 ^ 8
IsRefusal (refusal.NotDir component) = component < 2 ^ 8
IsRefusal refusal.IsDir = Unit {0}
IsRefusal refusal.Root = Unit {0}
IsRefusal (refusal.Exists id) = Fits id
IsRefusal refusal.DirFull = Unit {0}
IsRefusal (refusal.NotEmpty id) = Fits id
IsRefusal refusal.Loop = Unit {0}
IsRefusal refusal.TooLong = Unit {0}
IsRefusal (refusal.Behind stamp) = IsStamp stamp
IsRefusal refusal.IsGold = Unit {0}
IsRefusal refusal.LastGold = Unit {0}
IsRefusal (refusal.HasChild id) = Fits id
IsRefusal (refusal.Unsettled what id peer) = Fits id × (peer < 2 ^ 32)
IsRefusal refusal.Held = Unit {0}
IsRefusal (refusal.WrongView view) = view < 2 ^ 64
IsRefusal refusal.ManyActors = Unit {0}
