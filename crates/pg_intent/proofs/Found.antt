-- What is found with each key behind a beginning, an end and an aim.
use Rattle.std.proofs.Common.{ℕ, ◌≡◌, ◌∙◌, Bool, true, false, not, cond, ◌||◌, Option, None, Some, is_some, List, [], ◌∷◌, ◌++◌, refl, sym, ap, subst}
use Rattle.std.specs.Option.{option_map}
use Rattle.std.proofs.lemmas.Bool.{or_parts}
use Rattle.pg_intent.specs.declared.key.IntentKey.{IntentKey}
use Rattle.pg_intent.specs.declared.intent.Intent.{Intent}
use Rattle.pg_intent.specs.Key.{is_same_key}
use Rattle.pg_intent.specs.Intent.{aimed_at, key_of, rejoined}
use Rattle.pg_intent.specs.Intents.{AimedIsFound, BegunIsFound, EndedIsFound, begun_on, changed, ended, has_key, intent_at, stands}
use Rattle.pg_intent.proofs.SameKey.{is_same_key-true, is_same_key-symm}
use Rattle.pg_intent.proofs.Kept.{key_of-aimed_at, key_of-rejoined}

-- one stands exactly where one is found
pub stands_is : (is : List Intent) (k : IntentKey) → stands is k ≡ is_some (intent_at is k)
stands_is [] k = refl
stands_is (i ∷ is) k = by (has_key k i) (stands_is is k)
  where
    by : (t : Bool) → stands is k ≡ is_some (intent_at is k) → (t || stands is k) ≡ is_some (cond t (Some i) (intent_at is k))
    by true rest = refl
    by false rest = rest

-- where one key is another, what is found with it is found with the other
pub split : (P : Bool → Type 0) (k q : IntentKey) → (k ≡ q → P true) → (is_same_key k q ≡ false → P false) → P (is_same_key k q)
split P k q same other = by (is_same_key k q) refl
  where
    by : (t : Bool) → is_same_key k q ≡ t → P t
    by true e = same (is_same_key-true k q e)
    by false e = other e

-- ---- changes in place

module _ (f : Intent → Intent) (own : (i : Intent) → key_of (f i) ≡ key_of i) where
  changed_here : (is : List Intent) (k : IntentKey) → intent_at (changed f is k) k ≡ option_map f (intent_at is k)
  changed_here [] k = refl
  changed_here (i ∷ is) k = by (has_key k i) refl (changed_here is k)
    where
      by : (t : Bool) → has_key k i ≡ t → intent_at (changed f is k) k ≡ option_map f (intent_at is k) → intent_at (cond t (f i ∷ is) (i ∷ changed f is k)) k ≡ option_map f (cond t (Some i) (intent_at is k))
      by true e rest = ap (λ b. cond b (Some (f i)) (intent_at is k)) (ap (is_same_key k) (own i) ∙ e)
      by false e rest = ap (λ b. cond b (Some i) (intent_at (changed f is k) k)) e ∙ rest

  changed_there : (is : List Intent) (k q : IntentKey) → is_same_key k q ≡ false → intent_at (changed f is q) k ≡ intent_at is k
  changed_there [] k q other = refl
  changed_there (i ∷ is) k q other = by (has_key q i) refl (changed_there is k q other)
    where
      by : (t : Bool) → has_key q i ≡ t → intent_at (changed f is q) k ≡ intent_at is k → intent_at (cond t (f i ∷ is) (i ∷ changed f is q)) k ≡ cond (has_key k i) (Some i) (intent_at is k)
      by true e rest =
          let apart : has_key k i ≡ false = ap (is_same_key k) (sym (is_same_key-true q (key_of i) e)) ∙ other in
          ap (λ b. cond b (Some (f i)) (intent_at is k)) (ap (is_same_key k) (own i) ∙ apart) ∙ sym (ap (λ b. cond b (Some i) (intent_at is k)) apart)
      by false e rest = ap (cond (has_key k i) (Some i)) rest

  pub changed_found : (is : List Intent) (k q : IntentKey) → intent_at (changed f is q) k ≡ cond (is_same_key k q) (option_map f (intent_at is k)) (intent_at is k)
  changed_found is k q =
      split (λ t. intent_at (changed f is q) k ≡ cond t (option_map f (intent_at is k)) (intent_at is k)) k q
      (λ same. subst (λ r. intent_at (changed f is r) k ≡ option_map f (intent_at is k)) same (changed_here is k))
      (λ other. changed_there is k q other)

pub aimed_found : (is : List Intent) (one : IntentKey) (target : ℕ) (k : IntentKey) → AimedIsFound is one target k
aimed_found is one target k = changed_found (aimed_at target) (key_of-aimed_at target) is k one

-- ---- one more

pushed : (is : List Intent) (i : Intent) (k : IntentKey) → stands is (key_of i) ≡ false
    → intent_at (is ++ i ∷ []) k ≡ cond (is_same_key k (key_of i)) (Some (begun_on (intent_at is k) i)) (intent_at is k)
pushed [] i k none = refl
pushed (x ∷ xs) i k none =
    let p = or_parts (has_key (key_of i) x) (stands xs (key_of i)) none in
    by (has_key k x) refl p.0 (pushed xs i k p.1)
  where
    by : (t : Bool) → has_key k x ≡ t → has_key (key_of i) x ≡ false
        → intent_at (xs ++ i ∷ []) k ≡ cond (is_same_key k (key_of i)) (Some (begun_on (intent_at xs k) i)) (intent_at xs k)
        → cond t (Some x) (intent_at (xs ++ i ∷ []) k) ≡ cond (is_same_key k (key_of i)) (Some (begun_on (cond t (Some x) (intent_at xs k)) i)) (cond t (Some x) (intent_at xs k))
    by true e other rest =
        let apart : is_same_key k (key_of i) ≡ false = ap (λ q. is_same_key q (key_of i)) (is_same_key-true k (key_of x) e) ∙ is_same_key-symm (key_of x) (key_of i) ∙ other in
        sym (ap (λ b. cond b (Some (begun_on (Some x) i)) (Some x)) apart)
    by false e other rest = rest

again : (i : Intent) (o : Option Intent) → is_some o ≡ true → option_map (λ held. rejoined held i) o ≡ Some (begun_on o i)
again i None h = absurd (let e : false ≡ true = h in cc)
again i (Some held) h = refl

pub begun_found : (is : List Intent) (i : Intent) (k : IntentKey) → BegunIsFound is i k
begun_found is i k = by (stands is (key_of i)) refl
  where
    by : (t : Bool) → stands is (key_of i) ≡ t → intent_at (cond t (changed (λ held. rejoined held i) is (key_of i)) (is ++ i ∷ [])) k
        ≡ cond (is_same_key k (key_of i)) (Some (begun_on (intent_at is k) i)) (intent_at is k)
    by true e =
        changed_found (λ held. rejoined held i) (λ held. key_of-rejoined held i) is k (key_of i)
        ∙ split (λ t. cond t (option_map (λ held. rejoined held i) (intent_at is k)) (intent_at is k) ≡ cond t (Some (begun_on (intent_at is k) i)) (intent_at is k)) k (key_of i)
        (λ same. again i (intent_at is k) (sym (stands_is is k) ∙ ap (stands is) same ∙ e))
        (λ other. refl)
    by false e = pushed is i k e

-- ---- one less

ended_here : (is : List Intent) (k : IntentKey) → intent_at (ended is k) k ≡ None
ended_here [] k = refl
ended_here (i ∷ is) k = by (has_key k i) refl (ended_here is k)
  where
    by : (t : Bool) → has_key k i ≡ t → intent_at (ended is k) k ≡ None → intent_at (cond (not t) (i ∷ ended is k) (ended is k)) k ≡ None
    by true e rest = rest
    by false e rest = ap (λ b. cond b (Some i) (intent_at (ended is k) k)) e ∙ rest

ended_there : (is : List Intent) (k q : IntentKey) → is_same_key k q ≡ false → intent_at (ended is q) k ≡ intent_at is k
ended_there [] k q other = refl
ended_there (i ∷ is) k q other = by (has_key q i) refl (ended_there is k q other)
  where
    by : (t : Bool) → has_key q i ≡ t → intent_at (ended is q) k ≡ intent_at is k → intent_at (cond (not t) (i ∷ ended is q) (ended is q)) k ≡ cond (has_key k i) (Some i) (intent_at is k)
    by true e rest =
        let apart : has_key k i ≡ false = ap (is_same_key k) (sym (is_same_key-true q (key_of i) e)) ∙ other in
        rest ∙ sym (ap (λ b. cond b (Some i) (intent_at is k)) apart)
    by false e rest = ap (cond (has_key k i) (Some i)) rest

pub ended_found : (is : List Intent) (gone k : IntentKey) → EndedIsFound is gone k
ended_found is gone k =
    split (λ t. intent_at (ended is gone) k ≡ cond t None (intent_at is k)) k gone
    (λ same. subst (λ r. intent_at (ended is r) k ≡ None) same (ended_here is k))
    (λ other. ended_there is k gone other)
