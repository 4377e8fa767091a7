-- Two ranges in one, and what is to be sent, as functions that compute.
use Rattle.std.specs.Prelude.{ℕ, zero, suc, ◌+◌, ◌==◌, Bool, true, false, if◌then◌else◌, nat_lt, min, max, List, [], ◌∷◌, Option, None, Some, option_and_then, option_map}
use Rattle.pg_base.specs.declared.stamp.Stamp.{Stamp}
use Rattle.pg_patch.specs.declared.part.Part.{Part}
use Rattle.pg_patch.specs.Parts.{byte_of, holds}
use Rattle.pg_patch.specs.Ranges.{RangesValue}
use Rattle.pg_delta.specs.declared.delta.KeptDelta.{KeptDelta}
use Rattle.pg_delta.specs.Chain.{chain_of, is_worth_sending}

-- the byte that one of the parts has at the index, if one has
abbrev pub byte_here : List Part → ℕ → Option ℕ
byte_here [] index = None
byte_here (p ∷ ps) index = if holds p index then Some (byte_of p index) else byte_here ps index

-- the first, and where it is none the second
abbrev pub first_of : Option ℕ → Option ℕ → Option ℕ
first_of None y = y
first_of (Some x) y = Some x

-- the byte that a and then b lay at the index, if they do: b's, or a's as far as b keeps it
abbrev pub byte_laid : RangesValue → RangesValue → ℕ → Option ℕ
byte_laid a b index =
    first_of (byte_here b.parts index)
    (if nat_lt index b.keep then byte_here a.parts index else None)

-- the parts with what stands at the index before them
abbrev pub with_byte : ℕ → Option ℕ → List Part → List Part
with_byte at None ps = ps
with_byte at (Some b) [] = record { offset = at; bytes = b ∷ [] } ∷ []
with_byte at (Some b) (p ∷ ps) =
    if p.offset == at + 1
    then record { offset = at; bytes = b ∷ p.bytes } ∷ ps
    else record { offset = at; bytes = b ∷ [] } ∷ p ∷ ps

-- the parts that have these bytes at so many indexes from one on. Bytes side by side are one part
unfoldable pub parts_of : (ℕ → Option ℕ) → ℕ → ℕ → List Part
parts_of byte at zero = []
parts_of byte at (suc n) = with_byte at (byte at) (parts_of byte (at + 1) n)

-- how long a body is at least after a and then b
abbrev pub least_of : RangesValue → RangesValue → ℕ
least_of a b = max (min a.least b.keep) b.least

-- a and then b, in one
abbrev pub composed : RangesValue → RangesValue → RangesValue
composed a b = record {
  keep = min a.keep b.keep;
  least = least_of a b;
  parts = parts_of (byte_laid a b) 0 (least_of a b);
}

-- the ranges of some steps in one. The steps are the latest first
abbrev pub in_one : List KeptDelta → Option RangesValue
in_one [] = None
in_one (d ∷ []) = Some d.ranges
in_one (d ∷ e ∷ more) = option_map (λ r. composed r d.ranges) (in_one (e ∷ more))

abbrev pub is_no_head : List Stamp → Bool
is_no_head [] = true
is_no_head (s ∷ more) = false

-- what is sent to a server with these heads in place of the version of that stamp, whose body has
-- so many bytes
abbrev pub delta_of : List KeptDelta → List Stamp → Stamp → ℕ → Option RangesValue
delta_of kept from to len =
    if is_no_head from
    then None
    else option_and_then (λ c. if is_worth_sending c len then Some c else None)
    (option_and_then in_one (chain_of kept from to))
