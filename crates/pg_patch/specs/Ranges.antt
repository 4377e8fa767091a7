-- Ranges: what they are, what they make of a body, and what two of them are in one.
use Rattle.std.specs.Prelude.{ℕ, ◌≡◌, List, [], ◌∷◌, ◌+◌, ◌<◌, ◌^◌, ◌==◌, if◌then◌else◌, nat_lt, min, max, length, map, slice_index}
use Rattle.std.specs.List.{range_with_len}
use Rattle.pg_patch.specs.declared.part.Part.{Part}
use Rattle.pg_patch.specs.Parts.{byte_or, AreInOrder}

-- how much of a body stays, how long it is at least from then on, and what is laid over it
pub record RangesValue : Type 0 where
  pub keep : ℕ
  pub least : ℕ
  pub parts : List Part

-- numbers of 32 bits, and parts in order that end at `least` or before it
pub record IsRanges (r : RangesValue) : Type 0 where
  pub keep : r.keep < 2 ^ 32
  pub least : r.least < 2 ^ 32
  pub parts : AreInOrder 0 r.parts r.least

-- the most bytes that a body may have
abbrev pub body_limit : ℕ
body_limit = 1048576

-- the greatest number of 32 bits is no length: it says that all stays
abbrev pub all : ℕ
all = 4294967295

-- how much of a body of that length stays
abbrev pub kept : ℕ → ℕ → ℕ
kept keep n = if keep == all then n else min n keep

-- the length of what ranges make of a body of that length
abbrev pub length_of : ℕ → RangesValue → ℕ
length_of n r = max (kept r.keep n) r.least

-- its byte at the index: a part's, else the body's where that stays, else 0
abbrev pub byte_at : List ℕ → RangesValue → ℕ → ℕ
byte_at body r index =
    byte_or r.parts index
    (if nat_lt index (kept r.keep (length body)) then slice_index body index else 0)

-- what ranges make of a body
unfoldable pub applied : List ℕ → RangesValue → List ℕ
applied body r = map (byte_at body r) (range_with_len 0 (length_of (length body) r))

-- where a write ends. A write of no bytes ends at 0
abbrev pub write_end : ℕ → List ℕ → ℕ
write_end offset bytes = if length bytes == 0 then 0 else offset + length bytes

-- a write of the bytes at the offset
abbrev pub written : ℕ → List ℕ → RangesValue
written offset bytes =
    if length bytes == 0
    then record { keep = all; least = 0; parts = [] }
    else record {
      keep = all;
      least = offset + length bytes;
      parts = record { offset = offset; bytes = bytes } ∷ [];
    }

-- a cut to the length
abbrev pub cut_to : ℕ → RangesValue
cut_to n = record { keep = n; least = n; parts = [] }

-- c is a and then b: it keeps what both keep, and has b's parts over those of a, which are cut at
-- b's keep
pub record IsComposed (a b c : RangesValue) : Type 0 where
  pub keep : c.keep ≡ min a.keep b.keep
  pub least : c.least ≡ max (min a.least b.keep) b.least
  pub parts : (index other : ℕ) → byte_or c.parts index other
      ≡ byte_or b.parts index (if nat_lt index b.keep then byte_or a.parts index other else other)
