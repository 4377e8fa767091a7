-- A body with parts over it, byte after byte.
use Rattle.std.proofs.Common.{ℕ, cond, ◌≡◌, ◌<◌, ◌≤◌, ◌+◌, ◌-◌, ◌⊎◌, inl, inr, min, List, ◌∷◌, ◌++◌, length, take, drop, replicate, get_or, slice_range, refl, sym, ap, subst, ◌∙◌, arith, ltb}
use Rattle.std.proofs.lemmas.List.{get_or_append_left, get_or-append_right, length-append, length-replicate, get_or-replicate, take_all, get_or_past, get_or-take, length-take}
use Rattle.std.proofs.lemmas.List.Edits.{get_or-between, length-between}
use Rattle.std.proofs.lemmas.Bool.{cases_lt}
use Rattle.pg_patch.specs.declared.part.Part.{Part}
use Rattle.pg_patch.specs.Parts.{end_of, byte_or}
use Rattle.pg_patch.specs.Filling.{Fills}
use Rattle.pg_patch.specs.Ranges.{RangesValue, kept, length_of, applied}
use Rattle.pg_patch.proofs.Composed.{applied_from, below_yes, below_no}
use Rattle.pg_patch.proofs.Parts.{byte_or-here, holds-within}
use Rattle.pg_patch.proofs.Passing.{Passed, passed-more, passed-gap, passed_all}

-- ---- bytes that are brought up to a length
-- what the body has between the bytes' end and the length
abbrev pub more_of : List ℕ → List ℕ → ℕ → List ℕ
more_of old body len = slice_range body (min (length old) (min len (length body))) (min len (length body))

length-more_of : (old body : List ℕ) (len : ℕ) → length (more_of old body len) ≡ min len (length body) - min (length old) (min len (length body))
length-more_of old body len = length-between body (min (length old) (min len (length body))) (min len (length body)) (omega arith)

goes_on_by : (old body : List ℕ) (len k n : ℕ) → length old ≤ k → k < len → (k < length (old ++ more_of old body len)) ⊎ (length (old ++ more_of old body len) ≤ k) → len ≤ length (old ++ more_of old body len) + n
    → get_or ((old ++ more_of old body len) ++ replicate n 0) k 0 ≡ get_or body k 0
goes_on_by old body len k n a b (inl c) e =
    let f = length-more_of old body len in
    let g = length-append old (more_of old body len) in
    get_or_append_left (old ++ more_of old body len) (replicate n 0) 0 k c
    ∙ get_or-append_right old (more_of old body len) (length old) k 0 refl a
    ∙ get_or-between body (min (length old) (min len (length body))) (min len (length body)) (k - length old) 0 (omega arith)
    ∙ ap (λ i. get_or body i 0) (omega arith)
goes_on_by old body len k n a b (inr c) e =
    let f = length-more_of old body len in
    let g = length-append old (more_of old body len) in
    get_or-append_right (old ++ more_of old body len) (replicate n 0) (length (old ++ more_of old body len)) k 0 refl c
    ∙ get_or-replicate n (k - length (old ++ more_of old body len)) 0 0 (omega arith)
    ∙ sym (get_or_past body k 0 (omega arith))

length_padded : (xs : List ℕ) (n : ℕ) → length (xs ++ replicate n 0) ≡ length xs + n
length_padded xs n = length-append xs (replicate n 0) ∙ ap (λ k. length xs + k) (length-replicate n 0)

fills_by : (old new body : List ℕ) (len n : ℕ) → length old ≤ len → n ≡ len - length (old ++ more_of old body len) → new ≡ take len (old ++ more_of old body len) ++ replicate n 0 → Fills old new body len
fills_by old new body len n h c e =
    let f = length-more_of old body len in
    let g = length-append old (more_of old body len) in
    let whole : new ≡ (old ++ more_of old body len) ++ replicate n 0 = e ∙ ap (λ xs. xs ++ replicate n 0) (take_all len (old ++ more_of old body len) (omega arith)) in
    let l : length ((old ++ more_of old body len) ++ replicate n 0) ≡ length (old ++ more_of old body len) + n = length_padded (old ++ more_of old body len) n in
    let grown : length ((old ++ more_of old body len) ++ replicate n 0) ≡ len = l ∙ omega arith in
    record {
      long = ap length whole ∙ grown;
      begins = λ k a. ap (λ xs. get_or xs k 0) whole ∙ get_or_append_left (old ++ more_of old body len) (replicate n 0) 0 k (omega arith) ∙ get_or_append_left old (more_of old body len) 0 k a;
      goes_on = λ k a b. ap (λ xs. get_or xs k 0) whole ∙ goes_on_by old body len k n a b (cases_lt k (length (old ++ more_of old body len))) (omega arith);
    }

pub fills : (old mid new body : List ℕ) (len from until n : ℕ) → length old ≤ len → until ≡ min len (length body) → from ≡ min (length old) until → mid ≡ old ++ slice_range body from until → n ≡ len - length mid → new ≡ take len mid ++ replicate n 0 → Fills old new body len
fills old mid new body len from until n h u f m c e =
    let same : mid ≡ old ++ more_of old body len = m ∙ ap (λ i. old ++ slice_range body i until) f ∙ ap (λ j. old ++ slice_range body (min (length old) j) j) u in
    fills_by old new body len n h (c ∙ ap (λ xs. len - length xs) same) (e ∙ ap (λ xs. take len xs ++ replicate n 0) same)

-- ---- the body with the parts
-- so far the bytes are those of the parts over the body
pub record Built (parts : List Part) (body out : List ℕ) : Type 0 where
  pub bytes : (k : ℕ) → k < length out → get_or out k 0 ≡ byte_or parts k (get_or body k 0)

-- as far as no part stands
built-gap : (parts : List Part) (body out new : List ℕ) (len k : ℕ) → Built parts body out → Fills out new body len → k < len → (length out ≤ k → (d : ℕ) → byte_or parts k d ≡ d) → (k < length out) ⊎ (length out ≤ k) → get_or new k 0 ≡ byte_or parts k (get_or body k 0)
built-gap parts body out new len k h f lt g (inl a) = f.begins k a ∙ h.bytes k a
built-gap parts body out new len k h f lt g (inr a) = f.goes_on k a lt ∙ sym (g a (get_or body k 0))

built-next : (parts : List Part) (p : Part) (ps : List Part) (body out new : List ℕ) (least k : ℕ) → Built parts body out → Passed parts (p ∷ ps) (length out) least → Fills out new body p.offset → k < length (new ++ p.bytes) → (k < p.offset) ⊎ (p.offset ≤ k)
    → get_or (new ++ p.bytes) k 0 ≡ byte_or parts k (get_or body k 0)
built-next parts p ps body out new least k h g f lt (inl a) =
    get_or_append_left new p.bytes 0 k (omega (arith, f.long))
    ∙ built-gap parts body out new p.offset k h f a (λ b d. passed-gap parts p ps (length out) least g k d b a) (cases_lt k (length out))
built-next parts p ps body out new least k h g f lt (inr a) =
    let n = length-append new p.bytes in
    get_or-append_right new p.bytes p.offset k 0 f.long a
    ∙ sym (g.holds k (get_or body k 0) (omega (arith, g.order.0)) ∙ byte_or-here p ps k (get_or body k 0) (holds-within p k a (omega (arith, f.long))))

pub built-more : (parts : List Part) (p : Part) (ps : List Part) (body out new : List ℕ) (least : ℕ) → Built parts body out → Passed parts (p ∷ ps) (length out) least → Fills out new body p.offset → Built parts body (new ++ p.bytes)
built-more parts p ps body out new least h g f = record { bytes = λ k lt. built-next parts p ps body out new least k h g f lt (cases_lt k p.offset) }

pub passed-built : (parts : List Part) (p : Part) (ps : List Part) (body out new : List ℕ) (least : ℕ) → Passed parts (p ∷ ps) (length out) least → Fills out new body p.offset → Passed parts ps (length (new ++ p.bytes)) least
passed-built parts p ps body out new least g f =
    let e : end_of p ≡ length (new ++ p.bytes) = sym (length-append new p.bytes ∙ ap (λ n. n + length p.bytes) f.long) in
    let P : ℕ → Type 0 = λ n. Passed parts ps n least in
    subst P e (passed-more parts p ps (length out) least g)

-- the part of the body that stays
stays_by : (body : List ℕ) (m i : ℕ) → (i < m) ⊎ (m ≤ i) → get_or (take m body) i 0 ≡ cond (ltb i m) (get_or body i 0) 0
stays_by body m i (inl a) = get_or-take m body i 0 a ∙ sym (below_yes i m (get_or body i 0) 0 a)
stays_by body m i (inr a) = get_or_past (take m body) i 0 (omega (arith, length-take m body)) ∙ sym (below_no i m (get_or body i 0) 0 a)

built-all_of : (x out new : List ℕ) (r : RangesValue) (j : ℕ) → Built r.parts (take (kept r.keep (length x)) x) out → Passed r.parts (drop j r.parts) (length out) r.least → length r.parts ≤ j
    → Fills out new (take (kept r.keep (length x)) x) (length_of (length x) r) → new ≡ applied x r
built-all_of x out new r j h g le f =
    let m = kept r.keep (length x) in
    applied_from x new r f.long (λ i lt.
    built-gap r.parts (take m x) out new (length_of (length x) r) i h f (omega (arith, lt, f.long)) (λ k d. passed_all r.parts j (length out) r.least le g i d k) (cases_lt i (length out))
    ∙ ap (byte_or r.parts i) (stays_by x m i (cases_lt i m)))

pub built-all : (x out new : List ℕ) (r : RangesValue) (j m len : ℕ) → m ≡ kept r.keep (length x) → len ≡ length_of (length x) r → Built r.parts (take m x) out → Passed r.parts (drop j r.parts) (length out) r.least → length r.parts ≤ j
    → Fills out new (take m x) len → new ≡ applied x r
built-all x out new r j m len e d h g le f =
    let P : ℕ → Type 0 = λ k. Built r.parts (take k x) out in
    let Q : ℕ → Type 0 = λ k. Fills out new (take k x) len in
    let R : ℕ → Type 0 = λ k. Fills out new (take (kept r.keep (length x)) x) k in
    built-all_of x out new r j (subst P e h) g le (subst R d (subst Q e f))
