-- Bytes that are brought up to a length.
use Rattle.std.specs.Prelude.{ℕ, ◌≡◌, ◌<◌, ◌≤◌, List, length, slice_index}

-- the new bytes are so long, begin as the old ones, and have the body's bytes from there on, and
-- zeros where it has none
pub record Fills (old new body : List ℕ) (len : ℕ) : Type 0 where
  pub long : length new ≡ len
  pub begins : (k : ℕ) → k < length old → slice_index new k ≡ slice_index old k
  pub goes_on : (k : ℕ) → length old ≤ k → k < len → slice_index new k ≡ slice_index body k
