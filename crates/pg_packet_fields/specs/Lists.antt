-- Lists of fields behind their count, each of which may depend on those before it.
use Rattle.std.specs.Prelude.{ℕ, zero, suc, ◌≤◌, Bool, true, List, [], ◌∷◌, ◌++◌, length, Option, Some, None, Result, Ok, Err, nat_le, if◌then◌else◌}
use Rattle.pg_base.specs.Stamp.{IsBefore, is_before}
use Rattle.pg_base.specs.declared.stamp.Stamp.{Stamp}
use Rattle.pg_codec.specs.Reading.{Field, ◌>>=◌, followed_by, seen_as, checked, number_at, stamp_at}
use Rattle.pg_codec.specs.Laws.{HasStampWidth}
use Rattle.pg_packet_fields.specs.Faults.{of_packet}
use Rattle.pg_packet_fields.specs.declared.error.PacketError.{PacketError}
use Rattle.pg_packet_fields.specs.declared.error.PacketError.TheVariants.{BadTag, TooLong}

-- so many more behind those that were read; each is read by what is known of those before it
unfoldable pub many : {X S E : Type 0} → (S → Field E X) → (S → X → S) → ℕ → S → List X
    → Field E (List X)
many item next zero state done from = Ok (done, from)
many item next (suc n) state done from =
    item state from >>= λ x. many item next n (next state x.0) (done ++ x.0 ∷ []) x.1

-- what each has to be behind those before it
abbrev pub Chain : {X S : Type 0} → (S → X → Type 0) → (S → X → S) → S → List X → Type 0
Chain Fits next state [] = Unit {0}
Chain Fits next state (x ∷ xs) = Fits state x × Chain Fits next (next state x) xs

-- at most so many, each as it has to be
pub record AreListed {X S : Type 0} (most : ℕ) (Fits : S → X → Type 0) (next : S → X → S)
    (start : S) (xs : List X) : Type 0 where
  pub few : length xs ≤ most
  pub chain : Chain Fits next start xs

-- a count up to the most, else it is too long
abbrev pub count_of : ℕ → ℕ → ℕ → Result ℕ PacketError
count_of most place n = if nat_le n most then Ok n else Err (TooLong place)

-- a count of so many bytes up to the most, and so many items
abbrev pub list_at : {X S : Type 0} → ℕ → ℕ → (S → Field PacketError X) → (S → X → S) → S
    → Field PacketError (List X)
list_at size most item next start from = seen_as (λ x. x.1)
    (followed_by (checked (count_of most) (of_packet (number_at size)))
    (λ count. many item next count start [])) from

-- of those before it the last is known
abbrev pub to_last : {X : Type 0} → Option X → X → Option X
to_last last x = Some x

-- whether the stamp is later than the one before it
abbrev pub is_later : Option Stamp → Stamp → Bool
is_later None stamp = true
is_later (Some last) stamp = is_before last stamp

abbrev pub later_of : Option Stamp → ℕ → Stamp → Result Stamp PacketError
later_of last place stamp = if is_later last stamp then Ok stamp else Err (BadTag place)

unfoldable pub later_at : Option Stamp → Field PacketError Stamp
later_at last from = checked (later_of last) (of_packet stamp_at) from

-- a count in two bytes, at most 256, and so many stamps, each later than the one before
unfoldable pub stamps_at : Field PacketError (List Stamp)
stamps_at from = list_at 2 256 later_at to_last None from

abbrev pub IsLater : Option Stamp → Stamp → Type 0
IsLater None stamp = HasStampWidth stamp
IsLater (Some last) stamp = IsBefore last stamp × HasStampWidth stamp

abbrev pub AreStamps : List Stamp → Type 0
AreStamps stamps = AreListed 256 IsLater to_last None stamps
