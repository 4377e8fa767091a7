-- What stands for a text in XML is a row of signs that XML takes for text.
use Rattle.std.proofs.Common.{rules, ℕ, Bool, true, false, ◌≡◌, ◌≢◌, ◌≤◌, ◌⊎◌, inl, inr, ◌==◌, ◌&&◌, List, [], ◌∷◌, ◌++◌, nat_le, map, refl, ap, sym, ◌∙◌, codes, arith, if◌then◌else◌}
use Rattle.std.proofs.lemmas.Bool.Decides.{nat_tests}
use Rattle.std.specs.List.{AllByRecursion, flat_map}
use Rattle.pg_svg.specs.Escaped.{IsPlainByte, IsSign, IsXmlText, escaped, escaped_byte}

plain_byte : (b : ℕ) → (b == 60) ≡ false → (b == 62) ≡ false → (b == 38) ≡ false → (b == 34) ≡ false
    → (nat_le 32 b && nat_le b 126) ≡ true → IsPlainByte b
plain_byte b less greater and quote plain = record {
  least = grind (arith, nat_tests);
  most = grind (arith, nat_tests);
  less = grind (arith, nat_tests);
  greater = grind (arith, nat_tests);
  and = grind (arith, nat_tests);
  quote = grind (arith, nat_tests);
}

question : IsPlainByte 63
question = record {
  least = omega arith;
  most = omega arith;
  less = omega arith;
  greater = omega arith;
  and = omega arith;
  quote = omega arith;
}

-- one byte of a text is one sign, by the tests that tell which
one_sign : (b : ℕ) (less greater and quote plain : Bool) → (b == 60) ≡ less → (b == 62) ≡ greater
    → (b == 38) ≡ and → (b == 34) ≡ quote → (nat_le 32 b && nat_le b 126) ≡ plain
    → IsSign (if less then codes "&lt;" else (if greater then codes "&gt;" else (if and then codes "&amp;"
    else (if quote then codes "&quot;" else (if plain then b ∷ [] else codes "?")))))
one_sign b true g a q p e1 e2 e3 e4 e5 = inr (inl refl)
one_sign b false true a q p e1 e2 e3 e4 e5 = inr (inr (inl refl))
one_sign b false false true q p e1 e2 e3 e4 e5 = inr (inr (inr (inl refl)))
one_sign b false false false true p e1 e2 e3 e4 e5 = inr (inr (inr (inr refl)))
one_sign b false false false false true e1 e2 e3 e4 e5 = inl (b, plain_byte b e1 e2 e3 e4 e5, refl)
one_sign b false false false false false e1 e2 e3 e4 e5 = inl (63, question, refl)

byte_is_sign : (b : ℕ) → IsSign (escaped_byte b)
byte_is_sign b = one_sign b _ _ _ _ _ refl refl refl refl refl

signs_are : (text : List ℕ) → AllByRecursion IsSign (map escaped_byte text)
signs_are [] = search rules
signs_are (b ∷ bs) = (byte_is_sign b, signs_are bs)

signs_make : (text : List ℕ) → escaped text ≡ flat_map (λ s. s) (map escaped_byte text)
signs_make [] = refl
signs_make (b ∷ bs) = ap (λ rest. escaped_byte b ++ rest) (signs_make bs)

pub escaped_is_xml : (text : List ℕ) → IsXmlText (escaped text)
escaped_is_xml text = (map escaped_byte text, signs_are text, signs_make text)
