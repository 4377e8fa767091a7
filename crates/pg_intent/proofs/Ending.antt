-- Many intentions end: where those end that do not pass a test, those that pass it are left, in
-- their order.
use Rattle.std.proofs.Common.{◌≡◌, ◌∙◌, Bool, true, false, not, cond, List, [], ◌∷◌, map, filter, refl, ap}
use Rattle.std.specs.List.{AllByRecursion, IsDistinct}
use Rattle.pg_intent.specs.declared.key.IntentKey.{IntentKey}
use Rattle.pg_intent.specs.declared.intent.Intent.{Intent}
use Rattle.pg_intent.specs.Key.{is_same_key}
use Rattle.pg_intent.specs.Intent.{key_of}
use Rattle.pg_intent.specs.Intents.{HaveOwnKeys, ended, ended_each, has_key}
use Rattle.pg_intent.proofs.Kept.{differs_filter}
use Rattle.pg_intent.proofs.SameKey.{is_same_key-refl, is_same_key-symm}

-- the key differs from each of these
abbrev Differs : IntentKey → List IntentKey → Type 0
Differs k ks = AllByRecursion (λ y. is_same_key k y ≡ false) ks

first_stays : (i : Intent) (ks : List IntentKey) → Differs (key_of i) ks → (is : List Intent) → ended_each (i ∷ is) ks ≡ i ∷ ended_each is ks
first_stays i [] h is = refl
first_stays i (k ∷ ks) h is = by (has_key k i) (is_same_key-symm k (key_of i) ∙ h.0) (first_stays i ks h.1 (ended is k))
  where
    by : (t : Bool) → t ≡ false → ended_each (i ∷ ended is k) ks ≡ i ∷ ended_each (ended is k) ks
        → ended_each (cond (not t) (i ∷ ended is k) (ended is k)) ks ≡ i ∷ ended_each (ended is k) ks
    by true e rest = absurd cc
    by false e rest = rest

none_ends : (k : IntentKey) (is : List Intent) → Differs k (map key_of is) → ended is k ≡ is
none_ends k [] h = refl
none_ends k (i ∷ is) h = by (has_key k i) h.0 (none_ends k is h.1)
  where
    by : (t : Bool) → t ≡ false → ended is k ≡ is → cond (not t) (i ∷ ended is k) (ended is k) ≡ i ∷ is
    by true e rest = absurd cc
    by false e rest = ap (λ xs. i ∷ xs) rest

first_ends : (i : Intent) (is : List Intent) → Differs (key_of i) (map key_of is) → ended (i ∷ is) (key_of i) ≡ is
first_ends i is h = by (has_key (key_of i) i) (is_same_key-refl (key_of i))
  where
    by : (t : Bool) → t ≡ true → cond (not t) (i ∷ ended is (key_of i)) (ended is (key_of i)) ≡ is
    by true e = none_ends (key_of i) is h
    by false e = absurd cc

pub ended_others : (test : Intent → Bool) (is : List Intent) → HaveOwnKeys is → ended_each is (map key_of (filter (λ i. not (test i)) is)) ≡ filter test is
unfolding IsDistinct
ended_others test [] h = refl
ended_others test (i ∷ is) h = by (test i) (ended_others test is h.1)
  where
    by : (t : Bool) → ended_each is (map key_of (filter (λ x. not (test x)) is)) ≡ filter test is
        → ended_each (i ∷ is) (map key_of (cond (not t) (i ∷ filter (λ x. not (test x)) is) (filter (λ x. not (test x)) is))) ≡ cond t (i ∷ filter test is) (filter test is)
    by true rest =
        first_stays i (map key_of (filter (λ x. not (test x)) is)) (differs_filter (λ x. not (test x)) (key_of i) is h.0) is
        ∙ ap (λ xs. i ∷ xs) rest
    by false rest = ap (λ xs. ended_each xs (map key_of (filter (λ x. not (test x)) is))) (first_ends i is h.0) ∙ rest
