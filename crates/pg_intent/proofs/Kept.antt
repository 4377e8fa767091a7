-- Whatever begins, ends or is aimed, no two intentions have one key.
use Rattle.std.proofs.Common.{ℕ, suc, ◌≡◌, ◌∙◌, Bool, true, false, not, cond, List, [], ◌∷◌, ◌++◌, map, length, filter, refl, sym, ap, subst}
use Rattle.std.specs.List.{AllByRecursion, IsDistinct}
use Rattle.std.proofs.lemmas.Bool.{or_parts}
use Rattle.std.proofs.lemmas.List.{map-append}
use Rattle.pg_intent.specs.declared.key.IntentKey.{IntentKey}
use Rattle.pg_intent.specs.declared.intent.Intent.{Intent}
use Rattle.pg_intent.specs.declared.intent.Intent.TheVariants as intent
use Rattle.pg_intent.specs.Key.{is_same_key}
use Rattle.pg_intent.specs.Intent.{aimed_at, key_of, rejoined}
use Rattle.pg_intent.specs.Intents.{HaveOwnKeys, aimed, begun, changed, ended, has_key, stands}
use Rattle.pg_intent.proofs.SameKey.{is_same_key-symm}

pub key_of-aimed_at : (to : ℕ) (i : Intent) → key_of (aimed_at to i) ≡ key_of i
key_of-aimed_at to (intent.Bye f b p c) = refl
key_of-aimed_at to (intent.Seek f t) = refl
key_of-aimed_at to (intent.Fill f b t) = refl
key_of-aimed_at to (intent.Patch d e t) = refl
key_of-aimed_at to (intent.Confirm d c t) = refl
key_of-aimed_at to (intent.Leave f p b) = refl

pub key_of-rejoined : (i j : Intent) → key_of (rejoined i j) ≡ key_of i
key_of-rejoined (intent.Patch d e t) (intent.Patch d2 e2 t2) = refl
key_of-rejoined i j = refl

-- a change that leaves the keys of intentions
module _ (f : Intent → Intent) (own : (i : Intent) → key_of (f i) ≡ key_of i) (k : IntentKey) where
  pub keys-changed : (is : List Intent) → map key_of (changed f is k) ≡ map key_of is
  keys-changed [] = refl
  keys-changed (i ∷ is) = by (has_key k i) (keys-changed is)
    where
      by : (t : Bool) → map key_of (changed f is k) ≡ map key_of is → map key_of (cond t (f i ∷ is) (i ∷ changed f is k)) ≡ key_of i ∷ map key_of is
      by true rest = ap (λ q. q ∷ map key_of is) (own i)
      by false rest = ap (λ qs. key_of i ∷ qs) rest

  pub length-changed : (is : List Intent) → length (changed f is k) ≡ length is
  length-changed [] = refl
  length-changed (i ∷ is) = by (has_key k i) (length-changed is)
    where
      by : (t : Bool) → length (changed f is k) ≡ length is → length (cond t (f i ∷ is) (i ∷ changed f is k)) ≡ length (i ∷ is)
      by true rest = refl
      by false rest = ap suc rest

  pub own-changed : (is : List Intent) → HaveOwnKeys is → HaveOwnKeys (changed f is k)
  own-changed is h = subst (IsDistinct is_same_key) (sym (keys-changed is)) h

pub own-aimed : (is : List Intent) (k : IntentKey) (to : ℕ) → HaveOwnKeys is → HaveOwnKeys (aimed is k to)
own-aimed is k to h = own-changed (aimed_at to) (key_of-aimed_at to) k is h

pub length-aimed : (is : List Intent) (k : IntentKey) (to : ℕ) → length (aimed is k to) ≡ length is
length-aimed is k to = length-changed (aimed_at to) (key_of-aimed_at to) k is

-- ---- one begins

differs_push : (q k : IntentKey) (ks : List IntentKey) → AllByRecursion (λ y. is_same_key q y ≡ false) ks → is_same_key q k ≡ false
    → AllByRecursion (λ y. is_same_key q y ≡ false) (ks ++ k ∷ [])
differs_push q k [] h e = (e, tt)
differs_push q k (x ∷ xs) h e = (h.0, differs_push q k xs h.1 e)

own_push : (is : List Intent) (i : Intent) → HaveOwnKeys is → stands is (key_of i) ≡ false → HaveOwnKeys (is ++ i ∷ [])
unfolding IsDistinct
own_push [] i h none = (tt, tt)
own_push (x ∷ xs) i h none =
    let p = or_parts (has_key (key_of i) x) (stands xs (key_of i)) none in (
      subst (AllByRecursion (λ y. is_same_key (key_of x) y ≡ false)) (sym (map-append key_of xs (i ∷ [])))
          (differs_push (key_of x) (key_of i) (map key_of xs) h.0 (is_same_key-symm (key_of x) (key_of i) ∙ p.0)),
      own_push xs i h.1 p.1,
    )

pub own-begun : (is : List Intent) (i : Intent) → HaveOwnKeys is → HaveOwnKeys (begun is i)
own-begun is i h = by (stands is (key_of i)) refl
  where
    by : (t : Bool) → stands is (key_of i) ≡ t → HaveOwnKeys (cond t (changed (λ held. rejoined held i) is (key_of i)) (is ++ i ∷ []))
    by true e = own-changed (λ held. rejoined held i) (λ held. key_of-rejoined held i) (key_of i) is h
    by false e = own_push is i h e

-- ---- some end

pub differs_filter : (p : Intent → Bool) (q : IntentKey) (is : List Intent) → AllByRecursion (λ y. is_same_key q y ≡ false) (map key_of is)
    → AllByRecursion (λ y. is_same_key q y ≡ false) (map key_of (filter p is))
differs_filter p q [] h = tt
differs_filter p q (i ∷ is) h = by (p i) (differs_filter p q is h.1)
  where
    by : (t : Bool) → AllByRecursion (λ y. is_same_key q y ≡ false) (map key_of (filter p is))
        → AllByRecursion (λ y. is_same_key q y ≡ false) (map key_of (cond t (i ∷ filter p is) (filter p is)))
    by true rest = (h.0, rest)
    by false rest = rest

pub own-filter : (p : Intent → Bool) (is : List Intent) → HaveOwnKeys is → HaveOwnKeys (filter p is)
unfolding IsDistinct
own-filter p [] h = tt
own-filter p (i ∷ is) h = by (p i) (own-filter p is h.1)
  where
    by : (t : Bool) → HaveOwnKeys (filter p is) → HaveOwnKeys (cond t (i ∷ filter p is) (filter p is))
    by true rest = (differs_filter p (key_of i) is h.0, rest)
    by false rest = rest

pub own-ended : (is : List Intent) (k : IntentKey) → HaveOwnKeys is → HaveOwnKeys (ended is k)
own-ended is k h = own-filter (λ i. not (has_key k i)) is h
