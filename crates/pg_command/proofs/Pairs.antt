-- Pairs of hexadecimal digits spell bytes.
use Rattle.std.proofs.Common.{ℕ, ◌≡◌, ◌+◌, ◌*◌, ◌-◌, ◌/◌, ◌<◌, ◌∙◌, ◌++◌, All, List, [], ◌∷◌, ap, arith, codes, inl, inr, length, refl, slice_index, suc, sym, subst, zero}
use Rattle.std.proofs.lemmas.List.Elements.{All-head, All-tail}
use Rattle.hex.specs.Hex.{encode_lower, lower_digits}
use Rattle.pg_call.specs.Fields.{IsWordOf}
use Rattle.pg_call.specs.Fields.Field.{Bytes}
use Rattle.pg_command.specs.Slots.{ArePairs, SpellsBytes}
use Rattle.pg_words.proofs.HexWords.{byte_digits, encode-append, encode-nil, encode_each, length-encode}
use Rattle.pg_words.specs.HexWord.{AreAtMost, AreBytes, AreEncoded, IsLowerDigit, hex_word}

-- ---- the values of digits

low_value : (v : ℕ) → v < 10 → slice_index lower_digits v ≡ 48 + v
low_value zero h = refl
low_value (suc zero) h = refl
low_value (suc (suc zero)) h = refl
low_value (suc (suc (suc zero))) h = refl
low_value (suc (suc (suc (suc zero)))) h = refl
low_value (suc (suc (suc (suc (suc zero))))) h = refl
low_value (suc (suc (suc (suc (suc (suc zero)))))) h = refl
low_value (suc (suc (suc (suc (suc (suc (suc zero))))))) h = refl
low_value (suc (suc (suc (suc (suc (suc (suc (suc zero)))))))) h = refl
low_value (suc (suc (suc (suc (suc (suc (suc (suc (suc zero))))))))) h = refl
low_value (suc (suc (suc (suc (suc (suc (suc (suc (suc (suc v)))))))))) h = absurd (omega arith)

high_value : (v : ℕ) → v < 6 → slice_index lower_digits (10 + v) ≡ 97 + v
high_value zero h = refl
high_value (suc zero) h = refl
high_value (suc (suc zero)) h = refl
high_value (suc (suc (suc zero))) h = refl
high_value (suc (suc (suc (suc zero)))) h = refl
high_value (suc (suc (suc (suc (suc zero))))) h = refl
high_value (suc (suc (suc (suc (suc (suc v)))))) h = absurd (omega arith)

-- a digit has a value
record HasValue (byte : ℕ) : Type 0 where
  value : ℕ
  few : value < 16
  digit : slice_index lower_digits value ≡ byte

has_value : (byte : ℕ) → IsLowerDigit byte → HasValue byte
has_value byte (inl h) =
    let least = h.0 in
    let most = h.1 in
    let same : 48 + (byte - 48) ≡ byte = omega arith in
    record { value = byte - 48; few = omega arith; digit = low_value (byte - 48) (omega arith) ∙ same }
has_value byte (inr h) =
    let least = h.0 in
    let most = h.1 in
    let same : 97 + (byte - 97) ≡ byte = omega arith in
    record { value = 10 + (byte - 97); few = omega arith; digit = high_value (byte - 97) (omega arith) ∙ same }

-- ---- bytes

record HasBytes (word : List ℕ) : Type 0 where
  bytes : List ℕ
  encoded : AreEncoded bytes word

two_more : (x y h l : ℕ) (word bytes : List ℕ) → l < 16 → slice_index lower_digits h ≡ x
    → slice_index lower_digits l ≡ y
    → word ≡ encode_lower bytes
    → x ∷ y ∷ word ≡ encode_lower ((h * 16 + l) ∷ bytes)
two_more x y h l word bytes few ex ey e =
    ap (λ r. x ∷ y ∷ r) e
    ∙ ap (λ d. d ++ encode_lower bytes) (sym (byte_digits h l x y few ex ey))
    ∙ sym (encode-append ((h * 16 + l) ∷ []) bytes)

has_bytes : (n : ℕ) (word : List ℕ) → length word ≡ 2 * n → All IsLowerDigit word → HasBytes word
has_bytes zero [] e h = record { bytes = []; encoded = record { each = tt; spelled = encode-nil } }
has_bytes zero (x ∷ xs) e h = absurd (omega arith)
has_bytes (suc n) [] e h = absurd (omega arith)
has_bytes (suc n) (x ∷ []) e h = absurd (omega arith)
has_bytes (suc n) (x ∷ y ∷ word) e h =
    let behind = All-tail IsLowerDigit x (y ∷ word) h in
    let high = has_value x (All-head IsLowerDigit x (y ∷ word) h) in
    let low = has_value y (All-head IsLowerDigit y word behind) in
    let rest = has_bytes n word (omega arith) (All-tail IsLowerDigit y word behind) in
    let hf = high.few in
    let lf = low.few in
    record {
      bytes = (high.value * 16 + low.value) ∷ rest.bytes;
      encoded = record {
        each = (omega arith, rest.encoded.each);
        spelled = two_more x y high.value low.value word rest.bytes low.few high.digit low.digit rest.encoded.spelled;
      };
    }

pub spells_bytes : (word : List ℕ) → ArePairs word → All IsLowerDigit word → SpellsBytes word
spells_bytes word pairs each =
    let some = pairs.some in
    let even = pairs.even in
    let most = pairs.few in
    let found = has_bytes (length word / 2) word (omega arith) each in
    let same = ap length found.encoded.spelled in
    let twice = length-encode found.bytes in
    record {
      bytes = found.bytes;
      few = record { each = found.encoded.each; some = omega arith; few = omega arith };
      spelled = found.encoded.spelled;
    }

-- what spells bytes is such pairs
pub each_digit : (word : List ℕ) → SpellsBytes word → All IsLowerDigit word
each_digit word h =
    let P : List ℕ → Type 0 = All IsLowerDigit in
    subst P (sym h.spelled) (encode_each h.bytes h.few.each)

pub twice_bytes : (word : List ℕ) (h : SpellsBytes word) → length word ≡ 2 * length h.bytes
twice_bytes word h = ap length h.spelled ∙ length-encode h.bytes

pub are_pairs : (word : List ℕ) → SpellsBytes word → ArePairs word
are_pairs word h =
    let twice = twice_bytes word h in
    let some = h.few.some in
    let few = h.few.few in
    record { some = omega arith; even = omega arith; few = omega arith }

-- ---- the bytes of one write

pub payload_of_dash : (word : List ℕ) → word ≡ codes "-" → IsWordOf Bytes word
payload_of_dash word e = ([], record { each = tt; few = omega arith }, e)

some_payload : (word bytes : List ℕ) → AreBytes 32768 bytes → word ≡ encode_lower bytes
    → IsWordOf Bytes word
some_payload word [] h e = let some = h.some in absurd (omega arith)
some_payload word (b ∷ bs) h e = (b ∷ bs, record { each = h.each; few = h.few }, e)

pub payload_of_digits : (word : List ℕ) → SpellsBytes word → IsWordOf Bytes word
payload_of_digits word h = some_payload word h.bytes h.few h.spelled

digits_of : (word bytes : List ℕ) → AreAtMost 32768 bytes → word ≡ hex_word bytes
    → (word ≡ codes "-" → ⊥)
    → SpellsBytes word
digits_of word [] h e dash = absurd (dash e)
digits_of word (b ∷ bs) h e dash = record {
  bytes = b ∷ bs;
  few = record { each = h.each; some = omega arith; few = h.few };
  spelled = e;
}

pub digits_of_payload : (word : List ℕ) → (word ≡ codes "-" → ⊥) → IsWordOf Bytes word
    → SpellsBytes word
digits_of_payload word dash h = digits_of word h.0 h.1 h.2 dash
