-- What is found with each key where a server is removed.
use Rattle.std.proofs.Common.{ℕ, ◌≡◌, ◌==◌, ◌||◌, ◌++◌, ◌∙◌, Bool, true, false, cond, Option, None, Some, List, [], ◌∷◌, map, refl, sym, ap}
use Rattle.std.specs.List.{AllByRecursion, IsDistinct, list_any}
use Rattle.std.specs.Option.{option_map}
use Rattle.pg_intent.specs.declared.key.IntentKey.{IntentKey}
use Rattle.pg_intent.specs.declared.intent.Intent.{Intent}
use Rattle.pg_intent.specs.declared.intent.Intent.TheVariants as intent
use Rattle.pg_intent.specs.Key.{is_for_peer, is_same_key}
use Rattle.pg_intent.specs.Intent.{aimed_at, key_of, target_of}
use Rattle.pg_intent.specs.Intents.{HaveOwnKeys, TurnedIsFound, aimed, ended, has_key, intent_at, keys_to, turned, turned_at, turned_each}
use Rattle.pg_intent.proofs.Found.{aimed_found, ended_found, split}
use Rattle.pg_intent.proofs.Kept.{own-aimed, own-ended}
use Rattle.pg_intent.proofs.SameKey.{is_same_key-true}

-- whether a key is one of these
abbrev pub is_one_of : IntentKey → List IntentKey → Bool
is_one_of k ks = list_any (is_same_key k) ks

-- what is found with a key behind a turn of it
abbrev pub turned_as : IntentKey → ℕ → Option Intent → Option Intent
turned_as k to o = cond (is_for_peer k) None (option_map (aimed_at to) o)

-- ---- one

pub turned_found : (is : List Intent) (q : IntentKey) (to : ℕ) (k : IntentKey)
    → intent_at (turned is q to) k ≡ cond (is_same_key k q) (turned_as k to (intent_at is k)) (intent_at is k)
turned_found is q to k = by (is_for_peer q) refl
  where
    by : (t : Bool) → is_for_peer q ≡ t
        → intent_at (cond t (ended is q) (aimed is q to)) k ≡ cond (is_same_key k q) (turned_as k to (intent_at is k)) (intent_at is k)
    by true e =
        ended_found is q k
        ∙ split (λ t. cond t None (intent_at is k) ≡ cond t (turned_as k to (intent_at is k)) (intent_at is k)) k q
        (λ same. sym (ap (λ b. cond b None (option_map (aimed_at to) (intent_at is k))) (ap is_for_peer same ∙ e)))
        (λ other. refl)
    by false e =
        aimed_found is q to k
        ∙ split (λ t. cond t (option_map (aimed_at to) (intent_at is k)) (intent_at is k) ≡ cond t (turned_as k to (intent_at is k)) (intent_at is k)) k q
        (λ same. sym (ap (λ b. cond b None (option_map (aimed_at to) (intent_at is k))) (ap is_for_peer same ∙ e)))
        (λ other. refl)

-- ---- some

aimed_twice : (to : ℕ) (i : Intent) → aimed_at to (aimed_at to i) ≡ aimed_at to i
aimed_twice to (intent.Bye f b p c) = refl
aimed_twice to (intent.Seek f t) = refl
aimed_twice to (intent.Fill f b t) = refl
aimed_twice to (intent.Patch d e t) = refl
aimed_twice to (intent.Confirm d c t) = refl
aimed_twice to (intent.Leave f p b) = refl

map_twice : (to : ℕ) (o : Option Intent) → option_map (aimed_at to) (option_map (aimed_at to) o) ≡ option_map (aimed_at to) o
map_twice to None = refl
map_twice to (Some i) = ap (λ (j : Intent). Some j) (aimed_twice to i)

turned_twice : (k : IntentKey) (to : ℕ) (o : Option Intent) → turned_as k to (turned_as k to o) ≡ turned_as k to o
turned_twice k to o = by (is_for_peer k)
  where
    by : (t : Bool) → cond t None (option_map (aimed_at to) (cond t None (option_map (aimed_at to) o))) ≡ cond t None (option_map (aimed_at to) o)
    by true = refl
    by false = map_twice to o

pub each_found : (ks : List IntentKey) (is : List Intent) (to : ℕ) (k : IntentKey)
    → intent_at (turned_each is ks to) k ≡ cond (is_one_of k ks) (turned_as k to (intent_at is k)) (intent_at is k)
each_found [] is to k = refl
each_found (q ∷ ks) is to k =
    each_found ks (turned is q to) to k
    ∙ by (is_same_key k q) (is_one_of k ks) (intent_at (turned is q to) k) (turned_found is q to k)
  where
    by : (t u : Bool) (x : Option Intent) → x ≡ cond t (turned_as k to (intent_at is k)) (intent_at is k)
        → cond u (turned_as k to x) x ≡ cond (t || u) (turned_as k to (intent_at is k)) (intent_at is k)
    by true true x e = ap (turned_as k to) e ∙ turned_twice k to (intent_at is k)
    by true false x e = e
    by false u x e = ap (λ o. cond u (turned_as k to o) o) e

pub own-turned : (ks : List IntentKey) (is : List Intent) (to : ℕ) → HaveOwnKeys is → HaveOwnKeys (turned_each is ks to)
own-turned [] is to h = h
own-turned (q ∷ ks) is to h = own-turned ks (turned is q to) to (by (is_for_peer q))
  where
    by : (t : Bool) → HaveOwnKeys (cond t (ended is q) (aimed is q to))
    by true = own-ended is q h
    by false = own-aimed is q to h

-- ---- those that ask a server

asks : ℕ → Option Intent → Bool
asks server None = false
asks server (Some i) = target_of i == server

module _ (server : ℕ) where
  none_to : (k : IntentKey) (is : List Intent) → AllByRecursion (λ y. is_same_key k y ≡ false) (map key_of is) → is_one_of k (keys_to server is) ≡ false
  none_to k [] h = refl
  none_to k (i ∷ is) h = by (target_of i == server) (none_to k is h.1)
    where
      by : (t : Bool) → is_one_of k (keys_to server is) ≡ false → is_one_of k (cond t (key_of i ∷ []) [] ++ keys_to server is) ≡ false
      by true rest = ap (λ b. b || is_one_of k (keys_to server is)) h.0 ∙ rest
      by false rest = rest

  asks_is : (k : IntentKey) (is : List Intent) → HaveOwnKeys is → is_one_of k (keys_to server is) ≡ asks server (intent_at is k)
  unfolding IsDistinct asks
  asks_is k [] h = refl
  asks_is k (i ∷ is) h = by (has_key k i) (target_of i == server) refl refl (asks_is k is h.1)
    where
      none : has_key k i ≡ true → is_one_of k (keys_to server is) ≡ false
      none e =
          ap (λ q. is_one_of q (keys_to server is)) (is_same_key-true k (key_of i) e) ∙ none_to (key_of i) is h.0

      by : (t u : Bool) → has_key k i ≡ t → (target_of i == server) ≡ u → is_one_of k (keys_to server is) ≡ asks server (intent_at is k)
          → is_one_of k (cond u (key_of i ∷ []) [] ++ keys_to server is) ≡ asks server (cond t (Some i) (intent_at is k))
      by true true e f rest = ap (λ b. b || is_one_of k (keys_to server is)) e ∙ sym f
      by true false e f rest = none e ∙ sym f
      by false true e f rest = ap (λ b. b || is_one_of k (keys_to server is)) e ∙ rest
      by false false e f rest = rest

  turned_by : (to : ℕ) (k : IntentKey) (o : Option Intent) → cond (asks server o) (turned_as k to o) o ≡ turned_at server to k o
  unfolding asks
  turned_by to k None = refl
  turned_by to k (Some i) = refl

  pub turn_found : (is : List Intent) (to : ℕ) (k : IntentKey) → HaveOwnKeys is → TurnedIsFound is server to k
  turn_found is to k h =
      each_found (keys_to server is) is to k
      ∙ ap (λ b. cond b (turned_as k to (intent_at is k)) (intent_at is k)) (asks_is k is h)
      ∙ turned_by to k (intent_at is k)
