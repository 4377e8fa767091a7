-- Parts: bytes at indexes, in order.
use Rattle.std.specs.Prelude.{ℕ, Bool, List, [], ◌∷◌, ◌+◌, ◌-◌, ◌<◌, ◌≤◌, ◌&&◌, if◌then◌else◌, nat_le, nat_lt, length, slice_index, sum_by}
use Rattle.pg_patch.specs.declared.part.Part.{Part}

-- the index behind the part's last byte
abbrev pub end_of : Part → ℕ
end_of p = p.offset + length p.bytes

-- how many bytes the parts have together
abbrev pub bytes_of_parts : List Part → ℕ
bytes_of_parts parts = sum_by (λ (p : Part). length p.bytes) parts

-- whether the part has a byte at the index
abbrev pub holds : Part → ℕ → Bool
holds p index = nat_le p.offset index && nat_lt index (end_of p)

-- the byte that the part has at the index
abbrev pub byte_of : Part → ℕ → ℕ
byte_of p index = slice_index p.bytes (index - p.offset)

-- the byte that one of the parts has at the index, and where none has one, the other byte
abbrev pub byte_or : List Part → ℕ → ℕ → ℕ
byte_or [] index other = other
byte_or (p ∷ ps) index other = if holds p index then byte_of p index else byte_or ps index other

-- the first part begins at `from` or behind it, each has a byte and ends at `least` or before it,
-- and each begins behind the end of the one before: no two overlap, and no two touch
abbrev pub AreInOrder : ℕ → List Part → ℕ → Type 0
AreInOrder from [] least = Unit {0}
AreInOrder from (p ∷ ps) least =
    (from ≤ p.offset) × (0 < length p.bytes) × (end_of p ≤ least)
    × AreInOrder (end_of p + 1) ps least
