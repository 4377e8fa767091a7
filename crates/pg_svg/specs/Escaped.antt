-- Texts inside XML.
use Rattle.std.specs.Prelude.{ℕ, ◌≡◌, ◌≢◌, ◌≤◌, ◌⊎◌, ◌==◌, ◌&&◌, List, [], ◌∷◌, ◌++◌, codes, nat_le, if◌then◌else◌}
use Rattle.std.specs.List.{AllByRecursion, flat_map}

-- how a byte stands in XML: what XML takes for its own is told by name, and a byte that is no
-- printable ASCII is a question mark
abbrev pub escaped_byte : ℕ → List ℕ
escaped_byte b =
    if b == 60 then codes "&lt;"
    else (if b == 62 then codes "&gt;"
    else (if b == 38 then codes "&amp;"
    else (if b == 34 then codes "&quot;"
    else (if nat_le 32 b && nat_le b 126 then b ∷ [] else codes "?"))))

abbrev pub escaped : List ℕ → List ℕ
escaped text = flat_map escaped_byte text

-- a byte that stands for itself between two tags: printable ASCII, and neither `<`, `>`, `"` nor
-- `&`
pub record IsPlainByte (b : ℕ) : Type 0 where
  pub least : 32 ≤ b
  pub most : b ≤ 126
  pub less : b ≢ 60
  pub greater : b ≢ 62
  pub and : b ≢ 38
  pub quote : b ≢ 34

-- what XML reads as one sign: a byte that stands for itself, or one of four that are told by name
abbrev pub IsSign : List ℕ → Type 0
IsSign sign = ((b : ℕ) × IsPlainByte b × (sign ≡ b ∷ []))
    ⊎ (sign ≡ codes "&lt;") ⊎ (sign ≡ codes "&gt;") ⊎ (sign ≡ codes "&amp;") ⊎
    (sign ≡ codes "&quot;")

-- the text is a row of such signs, so it opens and ends no tag and begins no other name
abbrev pub IsXmlText : List ℕ → Type 0
IsXmlText text =
    (signs : List (List ℕ)) × AllByRecursion IsSign signs × (text ≡ flat_map (λ s. s) signs)
