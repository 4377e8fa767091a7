-- How fields are read from left to right, with the first fault that is met.
use Rattle.std.specs.Prelude.{◌≡◌, ℕ, zero, suc, ◌+◌, Bool, true, false, List, length, take, drop, Result, Ok, Err, nat_lt, ◌==◌, if◌then◌else◌}
use Rattle.byteorder.specs.Endian.{big_number}
use Rattle.pg_base.specs.declared.id.Kind.{Kind}
use Rattle.pg_base.specs.declared.id.Kind.TheVariants.{Dir, File}
use Rattle.pg_base.specs.declared.id.FileId.{FileId}
use Rattle.pg_base.specs.declared.stamp.Stamp.{Stamp}
use Rattle.pg_codec.specs.Unread.{Unread}
use Rattle.pg_codec.specs.declared.error.ReadError.{ReadError}
use Rattle.pg_codec.specs.declared.error.ReadError.TheVariants.{Short, BadTag}

-- A field is read to a value and what is unread behind it, or there is a fault.
abbrev pub Field : Type 0 → Type 0 → Type 0
Field E X = Unread → Result (X × Unread) E

infixl 10 ◌>>=◌
abbrev pub ◌>>=◌ : {A B E : Type 0} → Result A E → (A → Result B E) → Result B E
(Ok x) >>= f = f x
(Err e) >>= f = Err e

-- one field, and behind it another, which may depend on the first
abbrev pub followed_by : {A B E : Type 0} → Field E A → (A → Field E B) → Field E (A × B)
followed_by first second from = first from >>= λ a. (second a.0 a.1 >>= λ b. Ok ((a.0, b.0), b.1))

-- the same field, whose value is seen as another
abbrev pub seen_as : {A B E : Type 0} → (A → B) → Field E A → Field E B
seen_as view field from = field from >>= λ a. Ok (view a.0, a.1)

-- the same field, whose value stands for another or is faulty; a fault is at the field's place
abbrev pub checked : {A B E : Type 0} → (ℕ → A → Result B E) → Field E A → Field E B
checked check field from = field from >>= λ a. (check from.place a.0 >>= λ b. Ok (b, a.1))

-- what a function returned, seen by view, is what reading gives
abbrev pub Gives : {X Y : Type 0} → (X → Y) → Result X ReadError → Result Y ReadError → Type 0
Gives view (Ok x) read = read ≡ Ok (view x)
Gives view (Err e) read = read ≡ Err e

-- nothing is read yet
abbrev pub unread : List ℕ → Unread
unread bytes = record { place = 0; rest = bytes }

-- where all bytes end
abbrev pub end_of : Unread → ℕ
end_of from = from.place + length from.rest

-- so many bytes more are read
abbrev pub behind : ℕ → Unread → Unread
behind count from = record { place = from.place + count; rest = drop count from.rest }

-- so many bytes; Short at the end of all where there are fewer
abbrev pub bytes_at : ℕ → Field ReadError (List ℕ)
bytes_at count from = if nat_lt (length from.rest) count then Err (Short (end_of from))
    else Ok (take count from.rest, behind count from)

-- a number in so many bytes, the highest first
unfoldable pub number_at : ℕ → Field ReadError ℕ
number_at width from = seen_as (big_number width) (bytes_at width) from

-- what a byte at a place stands for
abbrev pub flag_of : ℕ → ℕ → Result Bool ReadError
flag_of place zero = Ok false
flag_of place (suc zero) = Ok true
flag_of place (suc (suc n)) = Err (BadTag place)

-- a truth value: the byte 0 or 1
unfoldable pub flag_at : Field ReadError Bool
flag_at from = checked flag_of (number_at 1) from

abbrev pub kind_of : ℕ → ℕ → Result Kind ReadError
kind_of place byte = if byte == 100 then Ok Dir
    else (if byte == 102 then Ok File else Err (BadTag place))

-- the byte `d` or `f`
unfoldable pub kind_at : Field ReadError Kind
kind_at from = checked kind_of (number_at 1) from

-- an id: its kind, its server and its number
unfoldable pub file_at : Field ReadError FileId
file_at from = seen_as (λ x. record { kind = x.0; server = x.1.0; number = x.1.1 })
    (followed_by kind_at (λ k. followed_by (number_at 4) (λ s. number_at 8))) from

-- a stamp: its time and its server
unfoldable pub stamp_at : Field ReadError Stamp
stamp_at from = seen_as (λ x. record { time = x.0; server = x.1 })
    (followed_by (number_at 8) (λ t. number_at 4)) from
