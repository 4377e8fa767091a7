-- What is read in its order is sorted.
use Rattle.std.proofs.Common.{◌≡◌, ◌⊎◌, inl, inr, ℕ, ◌≤◌, ◌<◌, Bool, true, false, List, [], ◌∷◌, map, Option, Some, Less, Equal, Greater, refl, sym, arith}
use Rattle.std.specs.Prelude.{nat_lt, ◌&&◌, ◌||◌, ◌==◌}
use Rattle.std.specs.Cmp.{IsTotalOrder, nat_cmp_is, ranked}
use Rattle.std.specs.List.{AllByRecursion, list_all}
use Rattle.std.specs.List.Sorted.{IsStrictlySortedBy}
use Rattle.std.specs.Ordering.{nat_cmp, ordering_then}
use Rattle.std.specs.declared.cmp.Ordering.{Ordering}
use Rattle.std.proofs.lemmas.Bool.{eqb-true, ltb-true}
use Rattle.pg_base.specs.Stamp.{IsBefore, is_before}
use Rattle.pg_base.specs.declared.stamp.Stamp.{Stamp}
use Rattle.pg_state_fields.specs.Orders.{is_behind}
use Rattle.pg_state_fields.proofs.Lasts.{less_of}

-- each is behind the one before it
abbrev pub Rows : {X K : Type 0} → (K → K → Ordering) → (X → K) → Option K → List X → Type 0
Rows R key last [] = Unit {0}
Rows R key last (x ∷ xs) = (is_behind R last (key x) ≡ true) × Rows R key (Some (key x)) xs

all_behind : {K : Type 0} (R : K → K → Ordering) → IsTotalOrder R → (k j : K) (qs : List K) → R k j ≡ Less → AllByRecursion (λ (q : K). R j q ≡ Less) qs
    → AllByRecursion (λ (q : K). R k q ≡ Less) qs
all_behind R o k j [] less all = tt
all_behind R o k j (q ∷ qs) less all = (o.trans k j q less all.0, all_behind R o k j qs less all.1)

behind_last : {X K : Type 0} (R : K → K → Ordering) → IsTotalOrder R → (key : X → K) (k : K) (xs : List X) → Rows R key (Some k) xs
    → AllByRecursion (λ (q : K). R k q ≡ Less) (map key xs)
behind_last R o key k [] rows = tt
behind_last R o key k (x ∷ xs) rows =
    let less = less_of (R k (key x)) rows.0 in
    (less, all_behind R o k (key x) (map key xs) less (behind_last R o key (key x) xs rows.1))

pub sorted : {X K : Type 0} (R : K → K → Ordering) → IsTotalOrder R → (key : X → K) (last : Option K) (xs : List X) → Rows R key last xs
    → IsStrictlySortedBy R (map key xs)
unfolding IsStrictlySortedBy
sorted R o key last [] rows = tt
sorted R o key last (x ∷ xs) rows = (behind_last R o key (key x) xs rows.1, sorted R o key (Some (key x)) xs rows.1)

-- ---- numbers and stamps

pub below_is : (a b : ℕ) → a < b → nat_cmp a b ≡ Less
below_is a b lt = sym (nat_cmp_is a b Less lt)

pub both : (a b : Bool) → (a && b) ≡ true → (a ≡ true) × (b ≡ true)
both true b h = (refl, h)
both false b h = absurd (let k : false ≡ true = h in cc)

before_case : (t u v : Bool) (a b : Stamp) → nat_lt a.time b.time ≡ t → (a.time == b.time) ≡ u → nat_lt a.server b.server ≡ v
    → (t || (u && v)) ≡ true → IsBefore a b
before_case true u v a b p q r e = inl (ltb-true a.time b.time p)
before_case false true true a b p q r e = inr (eqb-true a.time b.time q, ltb-true a.server b.server r)
before_case false true false a b p q r e = absurd cc
before_case false false v a b p q r e = absurd cc

pub before_of : (a b : Stamp) → is_before a b ≡ true → IsBefore a b
before_of a b e = before_case (nat_lt a.time b.time) (a.time == b.time) (nat_lt a.server b.server) a b refl refl refl e

-- two numbers, of which the first does not fall, and the second rises where the first stays
pair_case : (o : Ordering) (a b c d : ℕ) → nat_cmp a b ≡ o → a ≤ b → (a < b) ⊎ (c < d) → ordering_then o (nat_cmp c d) ≡ Less
pair_case Less a b c d is le either = refl
pair_case Equal a b c d is le (inl lt) = absurd (let same = ranked a b Equal (sym is) in omega (arith, same, lt))
pair_case Equal a b c d is le (inr lt) = below_is c d lt
pair_case Greater a b c d is le either = absurd (let more = ranked a b Greater (sym is) in omega (arith, more, le))

pub pair_less : (a b c d : ℕ) → a ≤ b → (a < b) ⊎ (c < d) → ordering_then (nat_cmp a b) (nat_cmp c d) ≡ Less
pair_less a b c d le either = pair_case (nat_cmp a b) a b c d refl le either

-- ---- tests of all

pub all_of : {X : Type 0} (P : X → Type 0) (test : X → Bool) → ((x : X) → test x ≡ true → P x) → (xs : List X) → list_all test xs ≡ true → AllByRecursion P xs
all_of P test to [] h = tt
all_of P test to (x ∷ xs) h = let b = both (test x) (list_all test xs) h in (to x b.0, all_of P test to xs b.1)
