-- What parts in order hold at an index.
use Rattle.std.proofs.Common.{ℕ, true, false, cond, ◌≡◌, ◌<◌, ◌≤◌, ◌+◌, ◌-◌, List, [], ◌∷◌, ◌++◌, length, refl, ap, ◌∙◌, arith}
use Rattle.std.proofs.lemmas.Bool.Decides.{nat_tests}
use Rattle.pg_patch.specs.declared.part.Part.{Part}
use Rattle.std.proofs.lemmas.List.Sums.{sum_by-cons}
use Rattle.pg_patch.specs.Parts.{end_of, holds, byte_of, byte_or, bytes_of_parts, AreInOrder}

pub holds-below : (p : Part) (i : ℕ) → i < p.offset → holds p i ≡ false
holds-below p i h = grind (arith, nat_tests)

pub holds-behind : (p : Part) (i : ℕ) → end_of p ≤ i → holds p i ≡ false
holds-behind p i h = grind (arith, nat_tests)

pub holds-within : (p : Part) (i : ℕ) → p.offset ≤ i → i < end_of p → holds p i ≡ true
holds-within p i h k = grind (arith, nat_tests)

pub byte_or-append : (ps qs : List Part) (i d : ℕ) → byte_or (ps ++ qs) i d ≡ byte_or ps i (byte_or qs i d)
byte_or-append [] qs i d = refl
byte_or-append (p ∷ ps) qs i d = ap (λ x. cond (holds p i) (byte_of p i) x) (byte_or-append ps qs i d)

-- the first part, where it has no byte, counts for nothing
pub byte_or-skip : (p : Part) (ps : List Part) (i d : ℕ) → holds p i ≡ false → byte_or (p ∷ ps) i d ≡ byte_or ps i d
byte_or-skip p ps i d h = ap (λ b. cond b (byte_of p i) (byte_or ps i d)) h

pub byte_or-here : (p : Part) (ps : List Part) (i d : ℕ) → holds p i ≡ true → byte_or (p ∷ ps) i d ≡ byte_of p i
byte_or-here p ps i d h = ap (λ b. cond b (byte_of p i) (byte_or ps i d)) h

-- no part begins before `from`
pub byte_or-before : (from l : ℕ) (ps : List Part) → AreInOrder from ps l → (i d : ℕ) → i < from → byte_or ps i d ≡ d
byte_or-before from l [] h i d k = refl
byte_or-before from l (p ∷ ps) h i d k =
    byte_or-skip p ps i d (holds-below p i (omega (arith, h.0))) ∙ byte_or-before (end_of p + 1) l ps h.3 i d (omega (arith, h.0))

-- no part ends behind `l`
pub byte_or-behind : (from l : ℕ) (ps : List Part) → AreInOrder from ps l → (i d : ℕ) → l ≤ i → byte_or ps i d ≡ d
byte_or-behind from l [] h i d k = refl
byte_or-behind from l (p ∷ ps) h i d k =
    byte_or-skip p ps i d (holds-behind p i (omega (arith, h.2))) ∙ byte_or-behind (end_of p + 1) l ps h.3 i d k

-- later bounds are weaker
pub in_order-wider : (from l from' l' : ℕ) (ps : List Part) → from' ≤ from → l ≤ l' → AreInOrder from ps l → AreInOrder from' ps l'
in_order-wider from l from' l' [] a b h = tt
in_order-wider from l from' l' (p ∷ ps) a b h = (omega (arith, h.0), h.1, omega (arith, h.2), in_order-wider (end_of p + 1) l (end_of p + 1) l' ps (omega arith) b h.3)

-- one more part, behind all
pub in_order-push : (from l : ℕ) (ps : List Part) (p : Part) → AreInOrder from ps l → from ≤ l + 1 → l < p.offset → 0 < length p.bytes → AreInOrder from (ps ++ p ∷ []) (end_of p)
in_order-push from l [] p h a b k = (omega arith, k, omega arith, tt)
in_order-push from l (q ∷ ps) p h a b k = (h.0, h.1, omega (arith, h.2), in_order-push (end_of q + 1) l ps p h.3 (omega (arith, h.2)) b k)

-- the last part begins at `from` or behind it
pub last_from : (from l : ℕ) (ps : List Part) (p : Part) → AreInOrder from (ps ++ p ∷ []) l → from ≤ p.offset
last_from from l [] p h = h.0
last_from from l (q ∷ ps) p h = omega (arith, h.0, last_from (end_of q + 1) l ps p h.3)

-- the last part may grow
pub in_order-grown : (from l : ℕ) (ps : List Part) (p q : Part) → AreInOrder from (ps ++ p ∷ []) l → q.offset ≡ p.offset → length p.bytes ≤ length q.bytes → AreInOrder from (ps ++ q ∷ []) (end_of q)
in_order-grown from l [] p q h e k = (omega (arith, h.0), omega (arith, h.1), omega arith, tt)
in_order-grown from l (r ∷ ps) p q h e k =
    let rest = in_order-grown (end_of r + 1) l ps p q h.3 e k in
    (h.0, h.1, omega (arith, last_from _ _ ps q rest), rest)

-- all but the last end before the last
pub in_order-but_last : (from l : ℕ) (ps : List Part) (p : Part) → AreInOrder from (ps ++ p ∷ []) l → AreInOrder from ps (p.offset - 1)
in_order-but_last from l [] p h = tt
in_order-but_last from l (r ∷ ps) p h = (h.0, h.1, omega (arith, last_from _ _ ps p h.3), in_order-but_last (end_of r + 1) l ps p h.3)

-- the last part ends at `l` or before it
pub last_to : (from l : ℕ) (ps : List Part) (p : Part) → AreInOrder from (ps ++ p ∷ []) l → end_of p ≤ l
last_to from l [] p h = h.2
last_to from l (q ∷ ps) p h = last_to (end_of q + 1) l ps p h.3

-- the parts have no more bytes than there are indexes from `from` to `l`
pub bytes_of_parts-most : (from l : ℕ) (ps : List Part) → AreInOrder from ps l → bytes_of_parts ps ≤ l - from
bytes_of_parts-most from l [] h = omega arith
bytes_of_parts-most from l (p ∷ ps) h =
    omega (arith, sum_by-cons (λ (q : Part). length q.bytes) p ps, bytes_of_parts-most (end_of p + 1) l ps h.3, h.0, h.1, h.2)
