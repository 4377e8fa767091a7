-- Kept deltas: which of those that were made or taken are kept.
use Rattle.std.specs.Prelude.{ℕ, Bool, ◌&&◌, if◌then◌else◌, nat_le, List, [], ◌∷◌, ◌++◌, filter, length, sum_by}
use Rattle.pg_patch.specs.Parts.{bytes_of_parts}
use Rattle.pg_patch.specs.Ranges.{RangesValue}
use Rattle.pg_delta.specs.declared.delta.KeptDelta.{KeptDelta}

-- how many bytes the parts of the ranges have
abbrev pub bytes_of : RangesValue → ℕ
bytes_of r = bytes_of_parts r.parts

-- the same of deltas, together
abbrev pub bytes_together : List KeptDelta → ℕ
bytes_together deltas = sum_by (λ (d : KeptDelta). bytes_of d.ranges) deltas

-- the most deltas that are kept
abbrev pub most_deltas : ℕ
most_deltas = 8

-- the most bytes that they have together
abbrev pub most_bytes_together : ℕ
most_bytes_together = 65536

-- the most bytes of a delta that is kept, and of one that is sent
abbrev pub most_bytes : ℕ
most_bytes = 30000

-- few enough, with few enough bytes together
abbrev pub is_within : List KeptDelta → Bool
is_within deltas =
    nat_le (length deltas) most_deltas && nat_le (bytes_together deltas) most_bytes_together

abbrev pub is_small : KeptDelta → Bool
is_small d = nat_le (bytes_of d.ranges) most_bytes

-- the longest end of the list that is within the limits
abbrev pub longest_end : List KeptDelta → List KeptDelta
longest_end [] = []
longest_end (d ∷ ds) = if is_within (d ∷ ds) then d ∷ ds else longest_end ds

-- the kept ones of all deltas that were made or taken, the oldest first: those of too many bytes
-- are left out, and then as many of the latest are kept as are within the limits
abbrev pub kept_deltas : List KeptDelta → List KeptDelta
kept_deltas all = longest_end (filter is_small all)

-- the kept ones after one more
abbrev pub with_delta : List KeptDelta → KeptDelta → List KeptDelta
with_delta kept d = if is_small d then longest_end (kept ++ d ∷ []) else kept
