-- The reasons of refusals without their values: a number and a name each, and which words stand
-- behind them.
use Rattle.std.specs.Prelude.{ℕ, ◌≡◌, ◌<◌, ◌^◌, List, [], ◌∷◌, decimal, codes}
use Rattle.pg_base.specs.Id.{spelling, Fits}
use Rattle.pg_base.specs.StampText.{stamp_text}
use Rattle.pg_base.specs.declared.id.FileId.{FileId}
use Rattle.pg_base.specs.declared.stamp.Stamp.{Stamp}
use Rattle.pg_call.specs.Refusal.{unsettled_word}
use Rattle.pg_call.specs.declared.refusal.RefusalKind.{RefusalKind}
use Rattle.pg_call.specs.declared.refusal.RefusalKind.TheVariants as reason
use Rattle.pg_call.specs.declared.refusal.Refusal.{Refusal}
use Rattle.pg_call.specs.declared.refusal.Refusal.TheVariants as refusal
use Rattle.pg_call.specs.declared.refusal.Unsettled.{Unsettled}
use Rattle.pg_words.specs.StampWord.{IsStamp}

abbrev pub reason_of : Refusal → RefusalKind
reason_of (refusal.BadPath component) = reason.BadPath
reason_of refusal.ClockEnd = reason.ClockEnd
reason_of (refusal.NotYet id) = reason.NotYet
reason_of (refusal.NoName component) = reason.NoName
reason_of (refusal.NotDir component) = reason.NotDir
reason_of refusal.IsDir = reason.IsDir
reason_of refusal.Root = reason.Root
reason_of (refusal.Exists id) = reason.Exists
reason_of refusal.DirFull = reason.DirFull
reason_of (refusal.NotEmpty id) = reason.NotEmpty
reason_of refusal.Loop = reason.Loop
reason_of refusal.TooLong = reason.TooLong
reason_of (refusal.Behind stamp) = reason.Behind
reason_of refusal.IsGold = reason.IsGold
reason_of refusal.LastGold = reason.LastGold
reason_of (refusal.HasChild id) = reason.HasChild
reason_of (refusal.Unsettled what id peer) = reason.Unsettled
reason_of refusal.Held = reason.Held
reason_of (refusal.WrongView view) = reason.WrongView
reason_of refusal.ManyActors = reason.ManyActors

abbrev pub reason_number : RefusalKind → List ℕ
reason_number reason.BadPath = codes "1"
reason_number reason.ClockEnd = codes "2"
reason_number reason.NotYet = codes "3"
reason_number reason.NoName = codes "4"
reason_number reason.NotDir = codes "5"
reason_number reason.IsDir = codes "6"
reason_number reason.Root = codes "7"
reason_number reason.Exists = codes "8"
reason_number reason.DirFull = codes "9"
reason_number reason.NotEmpty = codes "10"
reason_number reason.Loop = codes "11"
reason_number reason.TooLong = codes "12"
reason_number reason.Behind = codes "13"
reason_number reason.IsGold = codes "14"
reason_number reason.LastGold = codes "15"
reason_number reason.HasChild = codes "16"
reason_number reason.Unsettled = codes "17"
reason_number reason.Held = codes "18"
reason_number reason.WrongView = codes "19"
reason_number reason.ManyActors = codes "20"

abbrev pub reason_name : RefusalKind → List ℕ
reason_name reason.BadPath = codes "BadPath"
reason_name reason.ClockEnd = codes "ClockEnd"
reason_name reason.NotYet = codes "NotYet"
reason_name reason.NoName = codes "NoName"
reason_name reason.NotDir = codes "NotDir"
reason_name reason.IsDir = codes "IsDir"
reason_name reason.Root = codes "Root"
reason_name reason.Exists = codes "Exists"
reason_name reason.DirFull = codes "DirFull"
reason_name reason.NotEmpty = codes "NotEmpty"
reason_name reason.Loop = codes "Loop"
reason_name reason.TooLong = codes "TooLong"
reason_name reason.Behind = codes "Behind"
reason_name reason.IsGold = codes "IsGold"
reason_name reason.LastGold = codes "LastGold"
reason_name reason.HasChild = codes "HasChild"
reason_name reason.Unsettled = codes "Unsettled"
reason_name reason.Held = codes "Held"
reason_name reason.WrongView = codes "WrongView"
reason_name reason.ManyActors = codes "ManyActors"

-- the words behind the name
abbrev pub value_words : Refusal → List (List ℕ)
value_words (refusal.BadPath component) = decimal component ∷ []
value_words refusal.ClockEnd = []
value_words (refusal.NotYet id) = spelling id ∷ []
value_words (refusal.NoName component) = decimal component ∷ []
value_words (refusal.NotDir component) = decimal component ∷ []
value_words refusal.IsDir = []
value_words refusal.Root = []
value_words (refusal.Exists id) = spelling id ∷ []
value_words refusal.DirFull = []
value_words (refusal.NotEmpty id) = spelling id ∷ []
value_words refusal.Loop = []
value_words refusal.TooLong = []
value_words (refusal.Behind stamp) = stamp_text stamp ∷ []
value_words refusal.IsGold = []
value_words refusal.LastGold = []
value_words (refusal.HasChild id) = spelling id ∷ []
value_words (refusal.Unsettled what id peer) = unsettled_word what ∷ spelling id ∷ decimal peer ∷ []
value_words refusal.Held = []
value_words (refusal.WrongView view) = decimal view ∷ []
value_words refusal.ManyActors = []

-- the number of a component alone, and an id alone
abbrev pub IsComponentNumber : List (List ℕ) → Type 0
IsComponentNumber words = (n : ℕ) × (n < 2 ^ 8) × (words ≡ decimal n ∷ [])

abbrev pub IsId : List (List ℕ) → Type 0
IsId words = (id : FileId) × Fits id × (words ≡ spelling id ∷ [])

-- the words are those of the reason's values
abbrev pub AreValues : RefusalKind → List (List ℕ) → Type 0
AreValues reason.BadPath words = IsComponentNumber words
AreValues reason.ClockEnd words = words ≡ []
AreValues reason.NotYet words = IsId words
AreValues reason.NoName words = IsComponentNumber words
AreValues reason.NotDir words = IsComponentNumber words
AreValues reason.IsDir words = words ≡ []
AreValues reason.Root words = words ≡ []
AreValues reason.Exists words = IsId words
AreValues reason.DirFull words = words ≡ []
AreValues reason.NotEmpty words = IsId words
AreValues reason.Loop words = words ≡ []
AreValues reason.TooLong words = words ≡ []
AreValues reason.Behind words = (stamp : Stamp) × IsStamp stamp × (words ≡ stamp_text stamp ∷ [])
AreValues reason.IsGold words = words ≡ []
AreValues reason.LastGold words = words ≡ []
AreValues reason.HasChild words = IsId words
AreValues reason.Unsettled words =
    (what : Unsettled) × (id : FileId) × (peer : ℕ) × Fits id × (peer < 2 ^ 32)
    × (words ≡ unsettled_word what ∷ spelling id ∷ decimal peer ∷ [])
AreValues reason.Held words = words ≡ []
AreValues reason.WrongView words = (view : ℕ) × (view < 2 ^ 64) × (words ≡ decimal view ∷ [])
AreValues reason.ManyActors words = words ≡ []
