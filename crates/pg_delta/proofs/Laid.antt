-- Ranges in one, as a function: the parts that a function of bytes gives.
use Rattle.std.proofs.Common.{◌≡◌, ℕ, zero, suc, ◌+◌, ◌-◌, ◌<◌, ◌≤◌, ◌⊎◌, Bool, true, false, cond, eqb, ltb, unwrap_or, List, [], ◌∷◌, Option, Some, None, length, get_or, inl, inr, refl, sym, ap, subst, ◌∙◌, arith}
use Rattle.std.proofs.lemmas.Bool.{cases_lt}
use Rattle.std.proofs.lemmas.Bool.Decides.{nat_tests}
use Rattle.pg_patch.specs.declared.part.Part.{Part}
use Rattle.pg_patch.specs.Parts.{end_of, holds, byte_of, byte_or, AreInOrder}
use Rattle.pg_patch.specs.Ranges.{RangesValue, IsComposed, IsRanges}
use Rattle.pg_patch.proofs.Parts.{byte_or-before, byte_or-behind, byte_or-here, byte_or-skip, holds-behind, holds-within, in_order-wider}
use Rattle.pg_patch.proofs.Same.{one_composed}
use Rattle.pg_delta.specs.Whole.{byte_here, byte_laid, composed, first_of, least_of, parts_of, with_byte}

-- ---- one byte more in front

abbrev merged : ℕ → ℕ → Part → Part
merged at b p = record { offset = at; bytes = b ∷ p.bytes }

abbrev alone : ℕ → ℕ → Part
alone at b = record { offset = at; bytes = b ∷ [] }

order_by : (t : Bool) (at l b : ℕ) (p : Part) (ps : List Part) → eqb p.offset (at + 1) ≡ t → at + 1 ≤ l → AreInOrder (at + 1) (p ∷ ps) l → AreInOrder at (cond t (merged at b p ∷ ps) (alone at b ∷ p ∷ ps)) l
order_by true at l b p ps e le o =
    let here : p.offset ≡ at + 1 = grind (arith, nat_tests) in
    let to = o.2 in
    (omega arith, omega arith, omega arith, in_order-wider (end_of p + 1) l (at + suc (length p.bytes) + 1) l ps (omega arith) (omega arith) o.3)
order_by false at l b p ps e le o =
    let other : p.offset ≡ at + 1 → ⊥ = (λ x. grind (arith, nat_tests)) in
    let from = o.0 in
    (omega arith, omega arith, omega arith, (omega arith, o.1, o.2, o.3))

with_order : (at l : ℕ) (o : Option ℕ) (ps : List Part) → at + 1 ≤ l → AreInOrder (at + 1) ps l → AreInOrder at (with_byte at o ps) l
with_order at l None ps le o = in_order-wider (at + 1) l at l ps (omega arith) (omega arith) o
with_order at l (Some b) [] le o = (omega arith, omega arith, omega arith, tt)
with_order at l (Some b) (p ∷ ps) le o = order_by (eqb p.offset (at + 1)) at l b p ps refl le o

first_byte : (at b : ℕ) (bs : List ℕ) (ps : List Part) (d : ℕ) → (let p : Part = record { offset = at; bytes = b ∷ bs } in byte_or (p ∷ ps) at d ≡ b)
first_byte at b bs ps d =
    let p : Part = record { offset = at; bytes = b ∷ bs } in
    let none : at - at ≡ 0 = omega arith in
    byte_or-here p ps at d (holds-within p at (omega arith) (omega arith)) ∙ ap (λ k. get_or (b ∷ bs) k 0) none

same_by : (t : Bool) (at b d : ℕ) (p : Part) (ps : List Part) → byte_or (cond t (merged at b p ∷ ps) (alone at b ∷ p ∷ ps)) at d ≡ b
same_by true at b d p ps = first_byte at b p.bytes ps d
same_by false at b d p ps = first_byte at b [] (p ∷ ps) d

-- at the index stands the byte
with_same : (at l : ℕ) (o : Option ℕ) (ps : List Part) (d : ℕ) → AreInOrder (at + 1) ps l → byte_or (with_byte at o ps) at d ≡ unwrap_or o d
with_same at l None ps d o = byte_or-before (at + 1) l ps o at d (omega arith)
with_same at l (Some b) [] d o = first_byte at b [] [] d
with_same at l (Some b) (p ∷ ps) d o = same_by (eqb p.offset (at + 1)) at b d p ps

within_merged : (at b i d : ℕ) (p : Part) (ps : List Part) → p.offset ≡ at + 1 → at < i → (i < end_of p) ⊎ (end_of p ≤ i) → byte_or (merged at b p ∷ ps) i d ≡ byte_or (p ∷ ps) i d
within_merged at b i d p ps e lt (inl a) =
    let next : i - at ≡ suc (i - p.offset) = omega arith in
    byte_or-here (merged at b p) ps i d (holds-within (merged at b p) i (omega arith) (omega arith)) ∙ ap (λ k. get_or (b ∷ p.bytes) k 0) next
    ∙ sym (byte_or-here p ps i d (holds-within p i (omega arith) a))
within_merged at b i d p ps e lt (inr a) =
    byte_or-skip (merged at b p) ps i d (holds-behind (merged at b p) i (omega arith)) ∙ sym (byte_or-skip p ps i d (holds-behind p i a))

other_by : (t : Bool) (at b i d : ℕ) (p : Part) (ps : List Part) → eqb p.offset (at + 1) ≡ t → at < i → byte_or (cond t (merged at b p ∷ ps) (alone at b ∷ p ∷ ps)) i d ≡ byte_or (p ∷ ps) i d
other_by true at b i d p ps e lt = within_merged at b i d p ps (grind (arith, nat_tests)) lt (cases_lt i (end_of p))
other_by false at b i d p ps e lt = byte_or-skip (alone at b) (p ∷ ps) i d (holds-behind (alone at b) i (omega arith))

-- behind it the bytes are as they were
with_other : (at i d : ℕ) (o : Option ℕ) (ps : List Part) → at < i → byte_or (with_byte at o ps) i d ≡ byte_or ps i d
with_other at i d None ps lt = refl
with_other at i d (Some b) [] lt = byte_or-skip (alone at b) [] i d (holds-behind (alone at b) i (omega arith))
with_other at i d (Some b) (p ∷ ps) lt = other_by (eqb p.offset (at + 1)) at b i d p ps refl lt

-- ---- all bytes

pub parts_order : (byte : ℕ → Option ℕ) (at n l : ℕ) → l ≡ at + n → AreInOrder at (parts_of byte at n) l
unfolding parts_of
parts_order byte at zero l e = tt
parts_order byte at (suc n) l e = with_order at l (byte at) (parts_of byte (at + 1) n) (omega arith) (parts_order byte (at + 1) n l (omega arith))

pub parts_byte : (byte : ℕ → Option ℕ) (at n i d : ℕ) → at ≤ i → i < at + n → byte_or (parts_of byte at n) i d ≡ unwrap_or (byte i) d
unfolding parts_of
parts_byte byte at zero i d le lt = absurd (omega arith)
parts_byte byte at (suc n) i d le lt =
    let rest = parts_of byte (at + 1) n in
    elim (cases_lt at i) [
      | inl more ↦ with_other at i d (byte at) rest more ∙ parts_byte byte (at + 1) n i d (omega arith) (omega arith)
      | inr here ↦
          let same : at ≡ i = omega arith in
          let P : ℕ → Type 0 = λ k. byte_or (with_byte at (byte at) rest) k d ≡ unwrap_or (byte k) d in
          subst P same (with_same at (at + 1 + n) (byte at) rest d (parts_order byte (at + 1) n (at + 1 + n) refl))
    ]

-- ---- two ranges in one

here_by : (t : Bool) (x d : ℕ) (o : Option ℕ) (rest : ℕ) → unwrap_or o d ≡ rest → unwrap_or (cond t (Some x) o) d ≡ cond t x rest
here_by true x d o rest h = refl
here_by false x d o rest h = h

byte_is : (ps : List Part) (i d : ℕ) → unwrap_or (byte_here ps i) d ≡ byte_or ps i d
byte_is [] i d = refl
byte_is (p ∷ ps) i d = here_by (holds p i) (byte_of p i) d (byte_here ps i) (byte_or ps i d) (byte_is ps i d)

first_is : (x y : Option ℕ) (d : ℕ) → unwrap_or (first_of x y) d ≡ unwrap_or x (unwrap_or y d)
first_is None y d = refl
first_is (Some x) y d = refl

upto_by : (t : Bool) (o : Option ℕ) (d e : ℕ) → unwrap_or o d ≡ e → unwrap_or (cond t o None) d ≡ cond t e d
upto_by true o d e h = h
upto_by false o d e h = refl

laid_is : (a b : RangesValue) (i d : ℕ) → unwrap_or (byte_laid a b i) d ≡ byte_or b.parts i (cond (ltb i b.keep) (byte_or a.parts i d) d)
laid_is a b i d =
    let upper = byte_here b.parts i in
    let lower = cond (ltb i b.keep) (byte_here a.parts i) None in
    first_is upper lower d ∙ byte_is b.parts i (unwrap_or lower d)
    ∙ ap (byte_or b.parts i) (upto_by (ltb i b.keep) (byte_here a.parts i) d (byte_or a.parts i d) (byte_is a.parts i d))

past_by : (t : Bool) (a b : RangesValue) (i d : ℕ) → ltb i b.keep ≡ t → IsRanges a → least_of a b ≤ i → cond t (byte_or a.parts i d) d ≡ d
past_by true a b i d e ra le =
    let lt : i < b.keep = grind (arith, nat_tests) in
    byte_or-behind 0 a.least a.parts ra.parts i d (omega arith)
past_by false a b i d e ra le = refl

composed_byte : (a b : RangesValue) (i d : ℕ) → IsRanges a → IsRanges b → (i < least_of a b) ⊎ (least_of a b ≤ i)
    → byte_or (parts_of (byte_laid a b) 0 (least_of a b)) i d ≡ byte_or b.parts i (cond (ltb i b.keep) (byte_or a.parts i d) d)
composed_byte a b i d ra rb (inl lt) = parts_byte (byte_laid a b) 0 (least_of a b) i d (omega arith) (omega arith) ∙ laid_is a b i d
composed_byte a b i d ra rb (inr le) =
    byte_or-behind 0 (least_of a b) (parts_of (byte_laid a b) 0 (least_of a b)) (parts_order (byte_laid a b) 0 (least_of a b) (least_of a b) (omega arith)) i d le
    ∙ sym (byte_or-behind 0 b.least b.parts rb.parts i (cond (ltb i b.keep) (byte_or a.parts i d) d) (omega arith) ∙ past_by (ltb i b.keep) a b i d refl ra le)

pub composed_is : (a b : RangesValue) → IsRanges a → IsRanges b → IsComposed a b (composed a b)
composed_is a b ra rb = record {
  keep = refl;
  least = refl;
  parts = λ i d. composed_byte a b i d ra rb (cases_lt i (least_of a b));
}

pub composed_ranges : (a b : RangesValue) → IsRanges a → IsRanges b → IsRanges (composed a b)
composed_ranges a b ra rb =
    let ka = ra.keep in
    let la = ra.least in
    let lb = rb.least in
    record {
      keep = omega arith;
      least = omega arith;
      parts = parts_order (byte_laid a b) 0 (least_of a b) (least_of a b) (omega arith);
    }

-- a composition is the one that is computed
pub composition_computed : (a b c : RangesValue) → IsRanges a → IsRanges b → IsRanges c → IsComposed a b c → c ≡ composed a b
composition_computed a b c ra rb rc h = one_composed a b c (composed a b) rc (composed_ranges a b ra rb) h (composed_is a b ra rb)
