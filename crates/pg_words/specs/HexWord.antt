-- Bytes as words of hexadecimal digits.
use Rattle.std.specs.Prelude.{ℕ, ◌≡◌, ◌<◌, ◌≤◌, ◌⊎◌, List, [], ◌∷◌, length, codes}
use Rattle.std.specs.List.{AllByRecursion}
use Rattle.hex.specs.Hex.{encode_lower}

-- bytes as pairs of hexadecimal digits, or a dash for none
abbrev pub hex_word : List ℕ → List ℕ
hex_word [] = codes "-"
hex_word (b ∷ bs) = encode_lower (b ∷ bs)

-- bytes, no more than so many
pub record AreAtMost (most : ℕ) (bytes : List ℕ) : Type 0 where
  pub each : AllByRecursion (λ b. b < 256) bytes
  pub few : length bytes ≤ most

-- bytes, one at least and no more than so many
pub record AreBytes (most : ℕ) (bytes : List ℕ) : Type 0 where
  pub each : AllByRecursion (λ b. b < 256) bytes
  pub some : 0 < length bytes
  pub few : length bytes ≤ most

-- the bytes are those that these digits spell
pub record AreEncoded (bytes digits : List ℕ) : Type 0 where
  pub each : AllByRecursion (λ b. b < 256) bytes
  pub spelled : digits ≡ encode_lower bytes

-- a hexadecimal digit in lower case
abbrev pub IsLowerDigit : ℕ → Type 0
IsLowerDigit byte = ((48 ≤ byte) × (byte ≤ 57)) ⊎ ((97 ≤ byte) × (byte ≤ 102))
