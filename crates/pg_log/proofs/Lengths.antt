-- Lengths of entries, whole or cut short.
use Rattle.std.proofs.Common.{◌≡◌, inl, inr, ℕ, zero, suc, ◌+◌, ◌-◌, ◌<◌, ◌≤◌, List, [], ◌∷◌, ◌++◌, length, take, drop, set, get_or, replicate, refl, sym, ◌∙◌, ap, subst, arith, append_assoc, length-append, length-drop, take-append-drop, w32}
use Rattle.std.proofs.lemmas.Bool.{cases_lt}
use Rattle.std.proofs.Math.ListN.{get_or-append}
use Rattle.std.proofs.Math.Seq.{get_or-append_right}
use Rattle.std.proofs.lemmas.List.{append-nil, take_at, take_all, take_more, take-append-le, set_at, length-take, length-replicate}
use Rattle.std.proofs.lemmas.Nat.{from_be_bytes-to_be_bytes_4, be_bytes_4}
use Rattle.std.specs.Int.{to_be_bytes, from_be_bytes}
use Rattle.pg_log.specs.Bytes.{IsTailStart, IsBadTail}
use Rattle.pg_log.proofs.Unique.{same_number}
use Rattle.pg_log.proofs.Bad.{bad_byte, IsOpened, opened, opens_so}

-- the first bytes of a length, with zeros for the others
abbrev pub padded : List ℕ → List ℕ
padded bytes = bytes ++ replicate (4 - length bytes) 0

abbrev pub AreBytes : List ℕ → Type 0
AreBytes bytes = (i : ℕ) → get_or bytes i 0 < 256

zero_at : (n i : ℕ) → get_or (replicate {A = ℕ} n 0) i 0 ≡ 0
zero_at zero i = refl
zero_at (suc n) zero = refl
zero_at (suc n) (suc i) = zero_at n i

padded_bytes : (bytes : List ℕ) → AreBytes bytes → AreBytes (padded bytes)
padded_bytes bytes are i = elim (cases_lt i (length bytes)) [
  | inl within ↦ let same = get_or-append bytes (replicate {A = ℕ} (4 - length bytes) 0) 0 i within in let b = are i in omega arith
  | inr behind ↦ let same = get_or-append_right bytes (replicate {A = ℕ} (4 - length bytes) 0) i 0 behind in let none = zero_at (4 - length bytes) (i - length bytes) in omega arith
]

-- bytes with which some length begins
pub short_begins : (bytes : List ℕ) → AreBytes bytes → length bytes ≤ 4 → from_be_bytes w32 (padded bytes) ≤ 65536 → IsTailStart (1 ∷ bytes)
short_begins bytes are short small =
    let n : ℕ = from_be_bytes w32 (padded bytes) in
    let entry : List ℕ = replicate n 0 in
    let zeros : List ℕ = replicate (4 - length bytes) 0 in
    let size : length entry ≡ n = length-replicate {A = ℕ} n 0 in
    let whole : length (padded bytes) ≡ 4 = omega (arith, length-append bytes zeros, length-replicate {A = ℕ} (4 - length bytes) 0) in
    let spelled : to_be_bytes w32 n ≡ padded bytes = be_bytes_4 (padded bytes) n whole (padded_bytes bytes are) refl in
    opens_so bytes (zeros ++ (entry ++ 0 ∷ [])) entry (omega (arith, size, small))
    (sym (append_assoc bytes zeros (entry ++ 0 ∷ []))
    ∙ ap (λ (l : List ℕ). l ++ (entry ++ 0 ∷ [])) (sym spelled ∙ ap (to_be_bytes w32) (sym size))
    ∙ sym (append_assoc (to_be_bytes w32 (length entry)) entry (0 ∷ [])))

-- the first bytes of a number stand for no more than it
front_le : (a b c d j : ℕ) → j ≤ 4 → from_be_bytes w32 (take j (a ∷ b ∷ c ∷ d ∷ []) ++ replicate (4 - j) 0) ≤ from_be_bytes w32 (a ∷ b ∷ c ∷ d ∷ [])
front_le a b c d zero within = omega arith
front_le a b c d (suc zero) within = omega arith
front_le a b c d (suc (suc zero)) within = omega arith
front_le a b c d (suc (suc (suc zero))) within = omega arith
front_le a b c d (suc (suc (suc (suc zero)))) within = omega arith
front_le a b c d (suc (suc (suc (suc (suc j))))) within = absurd (omega arith)

number_front_le : (n j : ℕ) → n ≤ 65536 → j ≤ 4 → from_be_bytes w32 (take j (to_be_bytes w32 n) ++ replicate (4 - j) 0) ≤ n
number_front_le n j small within =
    let bytes = to_be_bytes w32 n in
    let le = front_le (get_or bytes 0 0) (get_or bytes 1 0) (get_or bytes 2 0) (get_or bytes 3 0) j within in
    subst (λ (m : ℕ). from_be_bytes w32 (take j bytes ++ replicate (4 - j) 0) ≤ m) (from_be_bytes-to_be_bytes_4 n (omega (arith, small))) le

-- bytes with which no length begins
pub no_length : (bytes : List ℕ) → length bytes ≤ 4 → 65536 < from_be_bytes w32 (padded bytes) → IsTailStart (1 ∷ bytes) → ⊥
no_length bytes short large begins =
    let more : List ℕ = begins.0 in
    let found = opened (bytes ++ more) begins.1 begins.2 in
    let field : List ℕ = to_be_bytes w32 (length found.entry) in
    let front : bytes ≡ take (length bytes) field =
    sym (take_at bytes more (length bytes) refl)
    ∙ ap (take (length bytes)) (found.spelled ∙ append_assoc field found.entry found.tail)
    ∙ take-append-le (length bytes) field (found.entry ++ found.tail) short in
    let le = number_front_le (length found.entry) (length bytes) found.fits short in
    let same : from_be_bytes w32 (padded bytes) ≡ from_be_bytes w32 (take (length bytes) field ++ replicate (4 - length bytes) 0) =
    ap (λ (l : List ℕ). from_be_bytes w32 (l ++ replicate (4 - length bytes) 0)) front in
    omega (arith, same, le, large, found.fits)

-- one byte more of a length
pub padded_more : (block field : List ℕ) (i byte : ℕ) → i < 4 → i < length block → field ≡ padded (take i block) → byte ≡ get_or block i 0 → set field i byte ≡ padded (take (i + 1) block)
padded_more block field i byte within has is byte_is =
    let front : List ℕ = take i block in
    let size : length front ≡ i = omega (arith, length-take i block, has) in
    let zeros : replicate {A = ℕ} (4 - length front) 0 ≡ 0 ∷ replicate (3 - i) 0 = (let count : 4 - length front ≡ suc (3 - i) = omega (arith, size, within) in ap (λ (k : ℕ). replicate k 0) count) in
    let opened_field : field ≡ front ++ 0 ∷ replicate (3 - i) 0 = is ∙ ap (λ (l : List ℕ). front ++ l) zeros in
    let more : take (i + 1) block ≡ front ++ byte ∷ [] = take_more block i 0 has ∙ ap (λ (b : ℕ). front ++ b ∷ []) (sym byte_is) in
    let count : 4 - length (take (i + 1) block) ≡ 3 - i = omega (arith, length-take (i + 1) block, has) in
    ap (λ (l : List ℕ). set l i byte) opened_field
    ∙ set_at front 0 (replicate (3 - i) 0) byte i size
    ∙ sym (append_assoc front (byte ∷ []) (replicate (3 - i) 0))
    ∙ (λ k. sym more k ++ replicate (sym count k) 0)

-- the end comes within a length, or within an entry or before the gate behind it
pub bad_at_end : (block : List ℕ) → IsTailStart (1 ∷ block) → (IsOpened block → ⊥) → IsBadTail (1 ∷ block) (1 + length block)
bad_at_end block begins none = record {
  within = omega arith;
  before = subst IsTailStart (sym (take_all (1 + length block) (1 ∷ block) (omega arith))) begins;
  byte = λ within more. omega (arith, within);
  no_tail = λ entries is. none (opened block entries is);
}

pub end_in_length : (block : List ℕ) → AreBytes block → length block < 4 → from_be_bytes w32 (padded block) ≤ 65536 → IsBadTail (1 ∷ block) (1 + length block)
end_in_length block are short small =
    bad_at_end block (short_begins block are (omega (arith, short)) small)
    (λ found. omega (arith, short, ap length found.spelled, length-append (to_be_bytes w32 (length found.entry) ++ found.entry) found.tail, length-append (to_be_bytes w32 (length found.entry)) found.entry))

pub bad_length : (block : List ℕ) (i : ℕ) → AreBytes block → i < 4 → i < length block → from_be_bytes w32 (padded (take i block)) ≤ 65536 → 65536 < from_be_bytes w32 (padded (take (i + 1) block)) → IsBadTail (1 ∷ block) (1 + i)
bad_length block i are within has small large =
    let one : 1 + i ≡ suc i = omega arith in
    let two : 1 + i + 1 ≡ suc (i + 1) = omega arith in
    bad_byte (1 ∷ block) (1 + i) (omega (arith, has))
    (subst IsTailStart (ap (λ (k : ℕ). take k (1 ∷ block)) (sym one)) (short_begins (take i block) (first_bytes i) (omega (arith, length-take i block, within)) small))
    (λ begins. no_length (take (i + 1) block) (omega (arith, length-take (i + 1) block, within)) large (subst IsTailStart (ap (λ (k : ℕ). take k (1 ∷ block)) two) begins))
  where
    first_bytes : (n : ℕ) → AreBytes (take n block)
    first_bytes n k = elim (cases_lt k (length (take n block))) [
      | inl within ↦ let same = get_or-append (take n block) (drop n block) 0 k within in let all = ap (λ (l : List ℕ). get_or l k 0) (take-append-drop n block) in let b = are k in omega arith
      | inr behind ↦ let none = get_or-append_right (take n block) [] k 0 behind in let all = ap (λ (l : List ℕ). get_or l k 0) (append-nil (take n block)) in omega arith
    ]

pub end_at : (block : List ℕ) (i : ℕ) → AreBytes block → i < 4 → length block ≤ i → i ≤ length block → from_be_bytes w32 (padded (take i block)) ≤ 65536 → IsBadTail (1 ∷ block) (1 + i)
end_at block i are within over under small =
    let same : i ≡ length block = omega arith in
    let whole : take i block ≡ block = take_all i block over in
    let fits : from_be_bytes w32 (padded block) ≤ 65536 = subst (λ (l : List ℕ). from_be_bytes w32 (padded l) ≤ 65536) whole small in
    subst (λ (k : ℕ). IsBadTail (1 ∷ block) (1 + k)) (sym same) (end_in_length block are (omega arith) fits)

-- the end comes within an entry
pub end_in_entry : (block : List ℕ) (n : ℕ) → n ≤ 65536 → 4 ≤ length block → to_be_bytes w32 n ≡ take 4 block → length (drop 4 block) < n → IsBadTail (1 ∷ block) (1 + length block)
end_in_entry block n fits long field short = bad_at_end block begins none
  where
    body : List ℕ
    body = drop 4 block

    zeros : List ℕ
    zeros = replicate (n - length (drop 4 block)) 0

    size : length (drop 4 block ++ replicate {A = ℕ} (n - length (drop 4 block)) 0) ≡ n
    size = omega (arith, short, length-append (drop 4 block) (replicate {A = ℕ} (n - length (drop 4 block)) 0), length-replicate {A = ℕ} (n - length (drop 4 block)) 0)

    begins : IsTailStart (1 ∷ block)
    begins =
        let rest : List ℕ = drop 4 block in
        let more : List ℕ = replicate (n - length (drop 4 block)) 0 in
        let entry : List ℕ = rest ++ more in
        opens_so block (more ++ 0 ∷ []) entry (omega (arith, size, fits))
        (ap (λ (l : List ℕ). l ++ (more ++ 0 ∷ [])) (sym (take-append-drop 4 block))
        ∙ append_assoc (take 4 block) rest (more ++ 0 ∷ [])
        ∙ ap (λ (l : List ℕ). take 4 block ++ l) (sym (append_assoc rest more (0 ∷ [])))
        ∙ sym (append_assoc (take 4 block) entry (0 ∷ []))
        ∙ ap (λ (l : List ℕ). l ++ entry ++ 0 ∷ []) (sym field ∙ ap (to_be_bytes w32) (sym size)))

    none : IsOpened block → ⊥
    none found =
        let number : List ℕ = to_be_bytes w32 (length found.entry) in
        let same : n ≡ length found.entry = same_number n (length found.entry) fits found.fits
        (field ∙ ap (take 4) (found.spelled ∙ append_assoc number found.entry found.tail) ∙ take_at number (found.entry ++ found.tail) 4 refl) in
        omega (arith, same, short, found.goes_on, ap length found.spelled, length-append (number ++ found.entry) found.tail, length-append number found.entry, length-drop 4 block)
