-- What ranges make of a body, byte by byte, and what two of them make of it.
use Rattle.std.proofs.Common.{ℕ, cond, ◌≡◌, ◌<◌, ◌≤◌, ◌⊎◌, inl, inr, min, max, List, length, get_or, sym, ap, ◌∙◌, arith, ltb}
use Rattle.std.proofs.lemmas.List.{ext_get_or}
use Rattle.std.proofs.lemmas.List.FromFn.{length-map-range_with_len, get_or-map-range_with_len}
use Rattle.std.proofs.lemmas.Bool.{cases_lt}
use Rattle.std.proofs.lemmas.Bool.Decides.{nat_tests}
use Rattle.pg_patch.specs.declared.part.Part.{Part}
use Rattle.pg_patch.specs.Parts.{byte_or, AreInOrder}
use Rattle.pg_patch.specs.Ranges.{RangesValue, IsRanges, IsComposed, all, kept, length_of, byte_at, applied}
use Rattle.pg_patch.proofs.Parts.{byte_or-behind}

pub length-applied : (x : List ℕ) (r : RangesValue) → length (applied x r) ≡ length_of (length x) r
unfolding applied
length-applied x r = length-map-range_with_len (byte_at x r) 0 (length_of (length x) r)

pub get_or-applied : (x : List ℕ) (r : RangesValue) (i d : ℕ) → i < length_of (length x) r → get_or (applied x r) i d ≡ byte_at x r i
unfolding applied
get_or-applied x r i d h = get_or-map-range_with_len (byte_at x r) 0 (length_of (length x) r) i i d h (omega arith)

-- what has the length and the bytes is the result
pub applied_from : (x ys : List ℕ) (r : RangesValue) → length ys ≡ length_of (length x) r → ((i : ℕ) → i < length ys → get_or ys i 0 ≡ byte_at x r i) → ys ≡ applied x r
applied_from x ys r e h =
    ext_get_or 0 ys (applied x r) (e ∙ sym (length-applied x r)) (λ i k. h i k ∙ sym (get_or-applied x r i 0 (omega arith)))

pub kept-all : (k n : ℕ) → k ≡ all → kept k n ≡ n
kept-all k n h = grind (arith, nat_tests)

pub kept-some : (k n : ℕ) → k < all → kept k n ≡ min n k
kept-some k n h = grind (arith, nat_tests)

-- a keep: all stays, or so much
abbrev pub Keeps : ℕ → ℕ → ℕ → Type 0
Keeps k n m = ((k < all) × (m ≡ min n k)) ⊎ ((all ≤ k) × (m ≡ n))

kept-keeps_by : (k n : ℕ) → k ≤ all → (k < all) ⊎ (all ≤ k) → Keeps k n (kept k n)
kept-keeps_by k n h (inl lt) = inl (lt, kept-some k n lt)
kept-keeps_by k n h (inr le) = inr (le, kept-all k n (omega arith))

pub kept-keeps : (k n : ℕ) → k ≤ all → Keeps k n (kept k n)
kept-keeps k n h = kept-keeps_by k n h (cases_lt k all)

base_same : (i m m' v : ℕ) → (i < m → i < m') → (i < m' → i < m) → cond (ltb i m) v 0 ≡ cond (ltb i m') v 0
base_same i m m' v f g = grind (arith, nat_tests)

-- the test of an index against a bound
pub below_yes : (i m v w : ℕ) → i < m → cond (ltb i m) v w ≡ v
below_yes i m v w h = grind (arith, nat_tests)

pub below_no : (i m v w : ℕ) → m ≤ i → cond (ltb i m) v w ≡ w
below_no i m v w h = grind (arith, nat_tests)

-- the lengths, as numbers: n of the body, l and m after a, k of the whole
length_steps : (ka la kb lb kc lc n ma mb mc : ℕ) → Keeps ka n ma → Keeps kb (max ma la) mb → Keeps kc n mc → ka ≤ all → kb ≤ all → la ≤ all → kc ≡ min ka kb → lc ≡ max (min la kb) lb → max mb lb ≡ max mc lc
length_steps ka la kb lb kc lc n ma mb mc p q r u v w e f =
    grind arith

-- what the tests of an index tell
stays : (la ka kb kc n ma mb mc i : ℕ) → Keeps ka n ma → Keeps kb (max ma la) mb → Keeps kc n mc → ka ≤ all → kb ≤ all → la ≤ all → kc ≡ min ka kb → i < mb → i < ma → i < mc
stays la ka kb kc n ma mb mc i p q r u v w e a b = grind arith

stayed : (la ka kb kc n ma mb mc i : ℕ) → Keeps ka n ma → Keeps kb (max ma la) mb → Keeps kc n mc → ka ≤ all → kb ≤ all → la ≤ all → kc ≡ min ka kb → i < mc → i < ma
stayed la ka kb kc n ma mb mc i p q r u v w e b = grind arith

gone : (la ka kb kc n ma mb mc i : ℕ) → Keeps ka n ma → Keeps kb (max ma la) mb → Keeps kc n mc → ka ≤ all → kb ≤ all → la ≤ all → kc ≡ min ka kb → mb ≤ i → mc ≤ i
gone la ka kb kc n ma mb mc i p q r u v w e a = grind arith

no_part : (la kb m mb i : ℕ) → Keeps kb (max m la) mb → kb ≤ all → la ≤ all → i < mb → kb ≤ i → la ≤ i
no_part la kb m mb i q v w a b = grind arith

cut_off : (la kb m mb i : ℕ) → Keeps kb (max m la) mb → kb ≤ all → la ≤ all → mb ≤ i → i < kb → la ≤ i
cut_off la kb m mb i q v w a b = grind arith

-- what stands below b's parts, by the index against b's keep and against what b keeps
lower_steps : (pa : List Part) (la ka kb kc n ma mb mc i v : ℕ) → Keeps ka n ma → Keeps kb (max ma la) mb → Keeps kc n mc → ka ≤ all → kb ≤ all → la ≤ all → kc ≡ min ka kb → AreInOrder 0 pa la
    → (i < mb) ⊎ (mb ≤ i) → (i < kb) ⊎ (kb ≤ i)
    → cond (ltb i mb) (byte_or pa i (cond (ltb i ma) v 0)) 0 ≡ cond (ltb i kb) (byte_or pa i (cond (ltb i mc) v 0)) (cond (ltb i mc) v 0)
lower_steps pa la ka kb kc n ma mb mc i v p q r u w z e o (inl a) (inl b) =
    below_yes i mb _ 0 a ∙ ap (byte_or pa i) (base_same i ma mc v (stays la ka kb kc n ma mb mc i p q r u w z e a) (stayed la ka kb kc n ma mb mc i p q r u w z e)) ∙ sym (below_yes i kb _ _ b)
lower_steps pa la ka kb kc n ma mb mc i v p q r u w z e o (inl a) (inr b) =
    below_yes i mb _ 0 a ∙ byte_or-behind 0 la pa o i _ (no_part la kb ma mb i q w z a b) ∙ base_same i ma mc v (stays la ka kb kc n ma mb mc i p q r u w z e a) (stayed la ka kb kc n ma mb mc i p q r u w z e) ∙ sym (below_no i kb _ _ b)
lower_steps pa la ka kb kc n ma mb mc i v p q r u w z e o (inr a) (inl b) =
    below_no i mb _ 0 a ∙ sym (below_yes i kb _ _ b ∙ byte_or-behind 0 la pa o i _ (cut_off la kb ma mb i q w z a b) ∙ below_no i mc v 0 (gone la ka kb kc n ma mb mc i p q r u w z e a))
lower_steps pa la ka kb kc n ma mb mc i v p q r u w z e o (inr a) (inr b) =
    below_no i mb _ 0 a ∙ sym (below_no i kb _ _ b ∙ below_no i mc v 0 (gone la ka kb kc n ma mb mc i p q r u w z e a))

kept_upto : (k n m : ℕ) → Keeps k n m → m ≤ n
kept_upto k n m h = grind arith

read_by : (i m v w : ℕ) → (i < m) ⊎ (m ≤ i) → (i < m → v ≡ w) → cond (ltb i m) v 0 ≡ cond (ltb i m) w 0
read_by i m v w (inl a) f = ap (λ y. cond (ltb i m) y 0) (f a)
read_by i m v w (inr a) f = below_no i m v 0 a ∙ sym (below_no i m w 0 a)

-- the byte of the result of a, where b keeps it
read_applied : (x : List ℕ) (a : RangesValue) (i m : ℕ) → m ≤ length_of (length x) a → cond (ltb i m) (get_or (applied x a) i 0) 0 ≡ cond (ltb i m) (byte_at x a i) 0
read_applied x a i m h = read_by i m (get_or (applied x a) i 0) (byte_at x a i) (cases_lt i m) (λ k. get_or-applied x a i 0 (omega (arith, k, h)))

-- two ranges one after another do what their composition does
pub two_applies : (a b c : RangesValue) → IsRanges a → IsRanges b → IsComposed a b c → (x : List ℕ) → applied (applied x a) b ≡ applied x c
two_applies a b c ra rb h x =
    let n = length x in
    let ea = length-applied x a in
    let p = kept-keeps a.keep n (omega (arith, ra.keep)) in
    let q = kept-keeps b.keep (length_of n a) (omega (arith, rb.keep)) in
    let r = kept-keeps c.keep n (omega (arith, ra.keep, h.keep)) in
    let la : a.least ≤ all = omega (arith, ra.least) in
    let ka : a.keep ≤ all = omega (arith, ra.keep) in
    let kb : b.keep ≤ all = omega (arith, rb.keep) in
    let long : length (applied (applied x a) b) ≡ length_of n c =
    length-applied (applied x a) b ∙ ap (λ m. length_of m b) ea
    ∙ length_steps a.keep a.least b.keep b.least c.keep c.least n (kept a.keep n) (kept b.keep (length_of n a)) (kept c.keep n) p q r ka kb la h.keep h.least in
    applied_from x (applied (applied x a) b) c long (λ i k.
    get_or-applied (applied x a) b i 0 (omega (arith, k, length-applied (applied x a) b))
    ∙ ap (byte_or b.parts i)
    (ap (λ m. cond (ltb i (kept b.keep m)) (get_or (applied x a) i 0) 0) ea
    ∙ read_applied x a i (kept b.keep (length_of n a)) (kept_upto b.keep (length_of n a) (kept b.keep (length_of n a)) q)
    ∙ lower_steps a.parts a.least a.keep b.keep c.keep n (kept a.keep n) (kept b.keep (length_of n a)) (kept c.keep n) i (get_or x i 0) p q r ka kb la h.keep ra.parts (cases_lt i (kept b.keep (length_of n a))) (cases_lt i b.keep))
    ∙ sym (h.parts i (cond (ltb i (kept c.keep n)) (get_or x i 0) 0)))
