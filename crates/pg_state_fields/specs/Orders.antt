-- Fields that are tested, fields that come behind those before them, and lists of any length.
use Rattle.std.specs.Prelude.{ℕ, ◌≡◌, Bool, true, List, [], length, Option, Some, None, Result, Ok, Err, nat_le, if◌then◌else◌}
use Rattle.std.specs.Ordering.{is_lt}
use Rattle.std.specs.declared.cmp.Ordering.{Ordering}
use Rattle.pg_base.specs.Id.{file_cmp}
use Rattle.pg_base.specs.declared.id.FileId.{FileId}
use Rattle.pg_base.specs.declared.stamp.Stamp.{Stamp}
use Rattle.pg_codec.specs.Laws.{HasWidth}
use Rattle.pg_codec.specs.Reading.{Field, followed_by, seen_as, checked, number_at, file_at, stamp_at}
use Rattle.pg_packet_fields.specs.Faults.{of_packet}
use Rattle.pg_packet_fields.specs.Lists.{Chain, is_later, many}
use Rattle.pg_packet_fields.specs.declared.error.PacketError.{PacketError}
use Rattle.pg_packet_fields.specs.declared.error.PacketError.TheVariants.{BadTag}

-- what passes the test, else a fault at the place
abbrev pub tested_of : {X : Type 0} → (X → Bool) → ℕ → X → Result X PacketError
tested_of test place x = if test x then Ok x else Err (BadTag place)

abbrev pub Passes : {X : Type 0} → (X → Type 0) → (X → Bool) → X → Type 0
Passes Fits test x = Fits x × (test x ≡ true)

-- ---- orders

-- it is behind the last one, if there is one
abbrev pub is_behind : {X : Type 0} → (X → X → Ordering) → Option X → X → Bool
is_behind cmp None x = true
is_behind cmp (Some last) x = is_lt (cmp last x)

unfoldable pub next_file_at : Option FileId → Field PacketError FileId
next_file_at last from = checked (tested_of (is_behind file_cmp last)) (of_packet file_at) from

unfoldable pub next_stamp_at : Option Stamp → Field PacketError Stamp
next_stamp_at last from = checked (tested_of (is_later last)) (of_packet stamp_at) from

-- ---- servers

abbrev pub is_target : ℕ → Bool
is_target n = nat_le n 64

-- the number of a server, or 0
unfoldable pub target_at : Field PacketError ℕ
target_at from = checked (tested_of is_target) (of_packet (number_at 4)) from

-- ---- lists

-- a count of so many bytes, and so many items
abbrev pub counted_list_at : {X S : Type 0} → ℕ → (S → Field PacketError X) → (S → X → S) → S
    → Field PacketError (List X)
counted_list_at size item next start from = seen_as (λ x. x.1)
    (followed_by (of_packet (number_at size)) (λ count. many item next count start [])) from

-- as many as a count of so many bytes can say, each as it has to be behind those before it
pub record AreCounted {X S : Type 0} (size : ℕ) (Fits : S → X → Type 0) (next : S → X → S)
    (start : S) (xs : List X) : Type 0 where
  pub count : HasWidth size (length xs)
  pub chain : Chain Fits next start xs

-- where each item is for itself
abbrev pub unchanged : {X : Type 0} → Unit {0} → X → Unit {0}
unchanged state x = state
