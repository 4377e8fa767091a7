-- The entries of the map that holds the intentions: each intention at its key.
use Rattle.std.proofs.Common.{◌≡◌, ◌∙◌, Bool, true, false, not, cond, Option, None, Some, List, [], ◌∷◌, ◌++◌, map, refl, sym, ap, subst}
use Rattle.std.specs.List.{AllByRecursion, IsDistinct}
use Rattle.std.specs.Map.{lookup, remove_entry, set_value, values_of}
use Rattle.std.proofs.lemmas.List.{map-append}
use Rattle.indexmap.specs.IndexMap.{IndexMap, get, insert_entry}
use Rattle.indexmap.proofs.CallerLemmas.{insert_entry-new}
use Rattle.pg_intent.specs.declared.key.IntentKey.{IntentKey}
use Rattle.pg_intent.specs.declared.intent.Intent.{Intent}
use Rattle.pg_intent.specs.Key.{is_same_key}
use Rattle.pg_intent.specs.Intent.{key_of}
use Rattle.pg_intent.specs.Intents.{HaveOwnKeys, changed, ended, has_key, intent_at}
use Rattle.pg_intent.specs.IntentsInside.{by_key}
use Rattle.pg_intent.proofs.SameKey.{is_same_key-true, same_key, same_key_is}

pub values_by_key : (is : List Intent) → values_of (by_key is) ≡ is
values_by_key [] = refl
values_by_key (i ∷ is) = ap (λ xs. i ∷ xs) (values_by_key is)

lookup_by_key : (k : IntentKey) (is : List Intent) → lookup (is_same_key k) (by_key is) ≡ intent_at is k
lookup_by_key k [] = refl
lookup_by_key k (i ∷ is) = ap (cond (has_key k i) (Some i)) (lookup_by_key k is)

some_is : (x y : Intent) → ◌≡◌ {A = Option Intent} (Some x) (Some y) → x ≡ y
some_is x y e = cc

-- the intention with this key changed, and not its key
set_by_key : (f : Intent → Intent) (k : IntentKey) (is : List Intent) (i : Intent) → intent_at is k ≡ Some i
    → key_of (f i) ≡ key_of i → set_value (is_same_key k) (by_key is) (f i) ≡ by_key (changed f is k)
set_by_key f k [] i there own = refl
set_by_key f k (x ∷ xs) i there own = by (has_key k x) refl (λ e. set_by_key f k xs i (sym (ap (λ b. cond b (Some x) (intent_at xs k)) e) ∙ there) own)
  where
    by : (t : Bool) → has_key k x ≡ t → (has_key k x ≡ false → set_value (is_same_key k) (by_key xs) (f i) ≡ by_key (changed f xs k))
        → cond t ((key_of x, f i) ∷ by_key xs) ((key_of x, x) ∷ set_value (is_same_key k) (by_key xs) (f i)) ≡ by_key (cond t (f x ∷ xs) (x ∷ changed f xs k))
    by true e rest =
        let same = some_is x i (sym (ap (λ b. cond b (Some x) (intent_at xs k)) e) ∙ there) in
        ap (λ y. (key_of y, f i) ∷ by_key xs) same ∙ ap (λ q. (q, f i) ∷ by_key xs) (sym own) ∙ ap (λ y. (key_of (f y), f y) ∷ by_key xs) (sym same)
    by false e rest = ap (λ es. (key_of x, x) ∷ es) (rest e)

-- none of them has the key
kept_all : (k : IntentKey) (is : List Intent) → AllByRecursion (λ y. is_same_key k y ≡ false) (map key_of is) → ended is k ≡ is
kept_all k [] h = refl
kept_all k (i ∷ is) h =
    ap (λ b. cond (not b) (i ∷ ended is k) (ended is k)) h.0 ∙ ap (λ xs. i ∷ xs) (kept_all k is h.1)

removed_by_key : (k : IntentKey) (is : List Intent) → HaveOwnKeys is → remove_entry (is_same_key k) (by_key is) ≡ by_key (ended is k)
unfolding IsDistinct
removed_by_key k [] h = refl
removed_by_key k (i ∷ is) h = by (has_key k i) refl (removed_by_key k is h.1)
  where
    by : (t : Bool) → has_key k i ≡ t → remove_entry (is_same_key k) (by_key is) ≡ by_key (ended is k)
        → cond t (by_key is) ((key_of i, i) ∷ remove_entry (is_same_key k) (by_key is)) ≡ by_key (cond (not t) (i ∷ ended is k) (ended is k))
    by true e rest =
        let same = is_same_key-true k (key_of i) e in
        sym (ap by_key (kept_all k is (subst (λ q. AllByRecursion (λ y. is_same_key q y ≡ false) (map key_of is)) (sym same) h.0)))
    by false e rest = ap (λ es. (key_of i, i) ∷ es) rest

-- ---- what stands in the entries

module _ (es : List (IntentKey × Intent)) (is : List Intent) (are : es ≡ by_key is) where
  pub values_are : values_of es ≡ is
  values_are = ap values_of are ∙ values_by_key is

  pub own_key : es ≡ by_key (values_of es)
  own_key = are ∙ ap by_key (sym values_are)

  pub single_key : HaveOwnKeys is → HaveOwnKeys (values_of es)
  single_key h = subst HaveOwnKeys (sym values_are) h

module _ {S : Type 0} (m : IndexMap IntentKey Intent S) (own : m.entries ≡ by_key (values_of m.entries)) where
  pub get_is : (k : IntentKey) → get same_key m k ≡ intent_at (values_of m.entries) k
  get_is k = ap (λ (t : IntentKey → IntentKey → Bool). lookup (t k) m.entries) same_key_is ∙ ap (lookup (is_same_key k)) own ∙ lookup_by_key k (values_of m.entries)

  -- one was changed
  pub set_is : (f : Intent → Intent) (k : IntentKey) (i : Intent) (es : List (IntentKey × Intent)) → get same_key m k ≡ Some i → key_of (f i) ≡ key_of i
      → es ≡ set_value (same_key k) m.entries (f i) → es ≡ by_key (changed f (values_of m.entries) k)
  set_is f k i es there same set =
      set ∙ ap (λ (t : IntentKey → IntentKey → Bool). set_value (t k) m.entries (f i)) same_key_is
      ∙ ap (λ xs. set_value (is_same_key k) xs (f i)) own
      ∙ set_by_key f k (values_of m.entries) i (sym (get_is k) ∙ there) same

  -- one came
  pub put_is : (i : Intent) (es : List (IntentKey × Intent)) → get same_key m (key_of i) ≡ None → es ≡ insert_entry same_key m.entries (key_of i) i
      → es ≡ by_key (values_of m.entries ++ i ∷ [])
  put_is i es none put =
      put ∙ insert_entry-new same_key m (key_of i) i none ∙ ap (λ xs. xs ++ (key_of i, i) ∷ []) own
      ∙ sym (map-append (λ x. (key_of x, x)) (values_of m.entries) (i ∷ []))

  -- one went
  pub removed_is : (k : IntentKey) (es : List (IntentKey × Intent)) → HaveOwnKeys (values_of m.entries) → es ≡ remove_entry (same_key k) m.entries
      → es ≡ by_key (ended (values_of m.entries) k)
  removed_is k es h gone =
      gone ∙ ap (λ (t : IntentKey → IntentKey → Bool). remove_entry (t k) m.entries) same_key_is
      ∙ ap (remove_entry (is_same_key k)) own ∙ removed_by_key k (values_of m.entries) h

-- none is there
own_none : HaveOwnKeys []
unfolding IsDistinct
own_none = tt

pub no_entry : (es : List (IntentKey × Intent)) → es ≡ [] → (es ≡ by_key (values_of es)) × HaveOwnKeys (values_of es)
no_entry es e =
    let P : List (IntentKey × Intent) → Type 0 = λ xs. (xs ≡ by_key (values_of xs)) × HaveOwnKeys (values_of xs) in
    subst P (sym e) (refl, own_none)
