-- Paths: their components, their one text, and what is wrong with a text that is none.
use Rattle.std.specs.Prelude.{ℕ, ◌≡◌, ◌+◌, ◌<◌, ◌≤◌, ◌==◌, List, [], ◌∷◌, length, slice_index, slice_range, map, All}
use Rattle.std.specs.List.{join_with_byte, slice_split}
use Rattle.pg_path.specs.First.{IsFirstWithout}
use Rattle.pg_path.specs.Name.{IsComponentByte}

-- 1 to 288 bytes, each one of a component
pub record IsComponent (part : List ℕ) : Type 0 where
  pub some : 1 ≤ length part
  pub most : length part ≤ 288
  pub each : All IsComponentByte part

-- a slash, and the components with a slash between each two: `/` where there is none
abbrev pub path_text : List (List ℕ) → List ℕ
path_text parts = 47 ∷ join_with_byte 47 parts

-- at most 64 components, and at most 4,096 bytes in the whole text
pub record IsPath (parts : List (List ℕ)) : Type 0 where
  pub few : length parts ≤ 64
  pub short : length (path_text parts) ≤ 4096
  pub each : All IsComponent parts

-- the bytes between the slashes
abbrev pub cut_at_slashes : List ℕ → List (List ℕ)
cut_at_slashes text = slice_split (λ b. b == 47) text

-- the same, behind the first byte: none where nothing stands behind it
abbrev pub parts_of : List ℕ → List (List ℕ)
parts_of [] = []
parts_of (slash ∷ []) = []
parts_of (slash ∷ byte ∷ rest) = cut_at_slashes (byte ∷ rest)

abbrev pub BeginsWithSlash : List ℕ → Type 0
BeginsWithSlash text = slice_index text 0 ≡ 47

-- a slash in front, but over 4,096 bytes
pub record IsLong (text : List ℕ) : Type 0 where
  pub slash : BeginsWithSlash text
  pub many : 4096 < length text

-- a slash in front, at most 4,096 bytes, but over 64 components
pub record IsTooDeep (text : List ℕ) : Type 0 where
  pub slash : BeginsWithSlash text
  pub short : length text ≤ 4096
  pub many : 64 < length (parts_of text)

-- a slash in front, at most 4,096 bytes in at most 64 components, of which this is the first that
-- breaks the grammar, counted from 1
pub record HasBadName (text : List ℕ) (component : ℕ) : Type 0 where
  pub slash : BeginsWithSlash text
  pub short : length text ≤ 4096
  pub few : length (parts_of text) ≤ 64
  pub first : (i : ℕ) × (component ≡ i + 1) × IsFirstWithout IsComponent (parts_of text) i

-- where each component stands in the text, from its first byte to the one behind its last
pub record AreCuts (text : List ℕ) (cuts : List (ℕ × ℕ)) : Type 0 where
  pub inside : All (λ c. (c.0 ≤ c.1) × (c.1 ≤ length text)) cuts
  pub each : map (λ c. slice_range text c.0 c.1) cuts ≡ parts_of text
