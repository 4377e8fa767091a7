-- Parts in order that hold the same bytes at the same indexes are the same parts.
use Rattle.std.proofs.Common.{ℕ, ◌≡◌, ◌<◌, ◌≤◌, ◌+◌, List, [], ◌∷◌, length, get_or, ◌⊎◌, inl, inr, refl, sym, ap, ◌∙◌, arith}
use Rattle.std.proofs.lemmas.List.{ext_get_or}
use Rattle.std.proofs.lemmas.Bool.{cases_lt}
use Rattle.pg_patch.specs.declared.part.Part.{Part}
use Rattle.pg_patch.specs.Parts.{end_of, byte_of, byte_or, AreInOrder}
use Rattle.pg_patch.specs.Ranges.{RangesValue, IsRanges, IsComposed}
use Rattle.pg_patch.proofs.Parts.{byte_or-before, byte_or-here, byte_or-skip, holds-within, holds-behind}

-- the parts have the same byte at every index, or none
pub record HoldSame (ps qs : List Part) : Type 0 where
  pub bytes : (index other : ℕ) → byte_or ps index other ≡ byte_or qs index other

not_lt_by : (a b : ℕ) → (a < b → ⊥) → (a < b) ⊎ (b ≤ a) → b ≤ a
not_lt_by a b h (inl lt) = absurd (h lt)
not_lt_by a b h (inr le) = le

not_lt : {a b : ℕ} → (a < b → ⊥) → b ≤ a
not_lt {a} {b} h = not_lt_by a b h (cases_lt a b)

one_more : (n : ℕ) → n + 1 ≡ n → ⊥
one_more n e = omega arith

-- where the first part has a byte, the others have one
not_before : (from l : ℕ) (p : Part) (ps qs : List Part) → HoldSame (p ∷ ps) qs → 0 < length p.bytes → AreInOrder from qs l → p.offset < from → ⊥
not_before from l p ps qs h some o lt =
    let d = byte_of p p.offset + 1 in
    one_more (byte_of p p.offset) (sym (byte_or-before from l qs o p.offset d lt) ∙ sym (h.bytes p.offset d) ∙ byte_or-here p ps p.offset d (holds-within p p.offset (omega arith) (omega arith)))

-- where the first part has ended, the others have no byte at first
not_longer : (from l : ℕ) (p q : Part) (ps qs : List Part) → HoldSame (p ∷ ps) (q ∷ qs) → AreInOrder from (p ∷ ps) l → q.offset ≡ p.offset → end_of p < end_of q → ⊥
not_longer from l p q ps qs h o e lt =
    let i = end_of p in
    let d = byte_of q i + 1 in
    one_more (byte_of q i) (sym (byte_or-before (end_of p + 1) l ps o.3 i d (omega arith)) ∙ sym (byte_or-skip p ps i d (holds-behind p i (omega arith))) ∙ h.bytes i d ∙ byte_or-here q qs i d (holds-within q i (omega arith) lt))

HoldSame-sym : (ps qs : List Part) → HoldSame ps qs → HoldSame qs ps
HoldSame-sym ps qs h = record { bytes = λ i d. sym (h.bytes i d) }

-- one first part: the offset, the end, the bytes
same_offset : (from l from' l' : ℕ) (p q : Part) (ps qs : List Part) → AreInOrder from (p ∷ ps) l → AreInOrder from' (q ∷ qs) l' → HoldSame (p ∷ ps) (q ∷ qs) → p.offset ≡ q.offset
same_offset from l from' l' p q ps qs o u h =
    let a : q.offset ≤ p.offset = not_lt (λ lt. not_before q.offset l' p ps (q ∷ qs) h o.1 (omega arith, u.1, u.2, u.3) lt) in
    let b : p.offset ≤ q.offset = not_lt (λ lt. not_before p.offset l q qs (p ∷ ps) (HoldSame-sym (p ∷ ps) (q ∷ qs) h) u.1 (omega arith, o.1, o.2, o.3) lt) in
    omega arith

same_end : (from l from' l' : ℕ) (p q : Part) (ps qs : List Part) → AreInOrder from (p ∷ ps) l → AreInOrder from' (q ∷ qs) l' → HoldSame (p ∷ ps) (q ∷ qs) → p.offset ≡ q.offset → length p.bytes ≡ length q.bytes
same_end from l from' l' p q ps qs o u h e =
    let a : end_of q ≤ end_of p = not_lt (λ lt. not_longer from l p q ps qs h o (sym e) lt) in
    let b : end_of p ≤ end_of q = not_lt (λ lt. not_longer from' l' q p qs ps (HoldSame-sym (p ∷ ps) (q ∷ qs) h) u e lt) in
    omega arith

byte_at_place : (p : Part) (k : ℕ) → byte_of p (p.offset + k) ≡ get_or p.bytes k 0
byte_at_place p k = ap (λ j. get_or p.bytes j 0) (omega arith)

same_bytes : (p q : Part) (ps qs : List Part) → HoldSame (p ∷ ps) (q ∷ qs) → p.offset ≡ q.offset → length p.bytes ≡ length q.bytes → p.bytes ≡ q.bytes
same_bytes p q ps qs h e n = ext_get_or 0 p.bytes q.bytes n (λ k lt.
    sym (byte_at_place p k) ∙ sym (byte_or-here p ps (p.offset + k) 0 (holds-within p (p.offset + k) (omega arith) (omega arith))) ∙ h.bytes (p.offset + k) 0
    ∙ byte_or-here q qs (p.offset + k) 0 (holds-within q (p.offset + k) (omega arith) (omega arith)) ∙ ap (λ o. byte_of q (o + k)) e ∙ byte_at_place q k)

parts_of : (o o' : ℕ) (b b' : List ℕ) → o ≡ o' → b ≡ b' → let x : Part = record { offset = o; bytes = b } in x ≡ record { offset = o'; bytes = b' }
parts_of o o' b b' e f = cc

part_same : (p q : Part) → p.offset ≡ q.offset → p.bytes ≡ q.bytes → p ≡ q
part_same p q e f = let whole = parts_of p.offset q.offset p.bytes q.bytes e f in whole

rest_by : (l l' i d : ℕ) (p q : Part) (ps qs : List Part) → AreInOrder (end_of p + 1) ps l → AreInOrder (end_of q + 1) qs l' → HoldSame (p ∷ ps) (q ∷ qs) → end_of p ≡ end_of q → (i < end_of p) ⊎ (end_of p ≤ i) → byte_or ps i d ≡ byte_or qs i d
rest_by l l' i d p q ps qs o u h e (inl a) = byte_or-before (end_of p + 1) l ps o i d (omega arith) ∙ sym (byte_or-before (end_of q + 1) l' qs u i d (omega arith))
rest_by l l' i d p q ps qs o u h e (inr a) = sym (byte_or-skip p ps i d (holds-behind p i a)) ∙ h.bytes i d ∙ byte_or-skip q qs i d (holds-behind q i (omega arith))

pub same_parts : (from l from' l' : ℕ) (ps qs : List Part) → AreInOrder from ps l → AreInOrder from' qs l' → HoldSame ps qs → ps ≡ qs
same_parts from l from' l' [] [] o u h = refl
same_parts from l from' l' [] (q ∷ qs) o u h = absurd (not_before (q.offset + 1) l q qs [] (HoldSame-sym [] (q ∷ qs) h) u.1 tt (omega arith))
same_parts from l from' l' (p ∷ ps) [] o u h = absurd (not_before (p.offset + 1) l' p ps [] h o.1 tt (omega arith))
same_parts from l from' l' (p ∷ ps) (q ∷ qs) o u h =
    let e = same_offset from l from' l' p q ps qs o u h in
    let n = same_end from l from' l' p q ps qs o u h e in
    let one = part_same p q e (same_bytes p q ps qs h e n) in
    let rest = same_parts (end_of p + 1) l (end_of q + 1) l' ps qs o.3 u.3 (record { bytes = λ i d. rest_by l l' i d p q ps qs o.3 u.3 h (omega arith) (cases_lt i (end_of p)) }) in
    cc

ranges_of : (k k' l l' : ℕ) (ps ps' : List Part) → k ≡ k' → l ≡ l' → ps ≡ ps' → let x : RangesValue = record { keep = k; least = l; parts = ps } in x ≡ record { keep = k'; least = l'; parts = ps' }
ranges_of k k' l l' ps ps' e f g = cc

ranges_same : (c d : RangesValue) → c.keep ≡ d.keep → c.least ≡ d.least → c.parts ≡ d.parts → c ≡ d
ranges_same c d e f g = ranges_of c.keep d.keep c.least d.least c.parts d.parts e f g

-- two ranges have one composition
pub one_composed : (a b c d : RangesValue) → IsRanges c → IsRanges d → IsComposed a b c → IsComposed a b d → c ≡ d
one_composed a b c d u v g h =
    ranges_same c d (g.keep ∙ sym h.keep) (g.least ∙ sym h.least) (same_parts 0 c.least 0 d.least c.parts d.parts u.parts v.parts (record { bytes = λ i o. g.parts i o ∙ sym (h.parts i o) }))
