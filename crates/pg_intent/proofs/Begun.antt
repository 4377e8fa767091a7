-- The entries of the map behind a beginning and an aim, at the key that the intention has.
use Rattle.std.proofs.Common.{ℕ, ◌≡◌, ◌∙◌, Bool, true, false, cond, ◌++◌, Option, None, Some, is_some, List, [], ◌∷◌, refl, sym, ap}
use Rattle.std.specs.Map.{set_value, values_of}
use Rattle.std.proofs.lemmas.Map.Steps.{set_value_same}
use Rattle.indexmap.specs.IndexMap.{IndexMap, get, insert_entry}
use Rattle.pg_intent.specs.declared.key.IntentKey.{IntentKey}
use Rattle.pg_intent.specs.declared.intent.Intent.{Intent}
use Rattle.pg_intent.specs.Intent.{aimed_at, key_of, rejoined}
use Rattle.pg_intent.specs.Intents.{aimed, begun, changed, has_key, intent_at, stands}
use Rattle.pg_intent.specs.IntentsInside.{by_key}
use Rattle.pg_intent.proofs.SameKey.{same_key}
use Rattle.pg_intent.proofs.Found.{stands_is}
use Rattle.pg_intent.proofs.Kept.{key_of-aimed_at, key_of-rejoined}
use Rattle.pg_intent.proofs.Entries.{get_is, put_is, set_is}

-- one with the key stands, or none
pub there : (is : List Intent) (k : IntentKey) (i : Intent) → intent_at is k ≡ Some i → stands is k ≡ true
there is k i e = stands_is is k ∙ ap (λ (o : Option Intent). is_some o) e

pub nowhere : (is : List Intent) (k : IntentKey) → intent_at is k ≡ None → stands is k ≡ false
nowhere is k e = stands_is is k ∙ ap (λ (o : Option Intent). is_some o) e

module _ {S : Type 0} (m : IndexMap IntentKey Intent S) (own : m.entries ≡ by_key (values_of m.entries)) (i : Intent) (k : IntentKey) (same : k ≡ key_of i) where
  at_key : (o : Option Intent) → get same_key m k ≡ o → intent_at (values_of m.entries) (key_of i) ≡ o
  at_key o e = ap (intent_at (values_of m.entries)) (sym same) ∙ sym (get_is m own k) ∙ e

  -- whether one stands
  pub stood : (x : Intent) → get same_key m k ≡ Some x → stands (values_of m.entries) (key_of i) ≡ true
  stood x e = there (values_of m.entries) (key_of i) x (at_key (Some x) e)

  pub stood_not : get same_key m k ≡ None → stands (values_of m.entries) (key_of i) ≡ false
  stood_not e = nowhere (values_of m.entries) (key_of i) (at_key None e)

  -- it begins again
  pub again_is : (x w : Intent) (es : List (IntentKey × Intent)) → get same_key m k ≡ Some x → w ≡ rejoined x i
      → es ≡ set_value (same_key k) m.entries w → es ≡ by_key (begun (values_of m.entries) i)
  again_is x w es found joined set =
      let f : Intent → Intent = λ held. rejoined held i in
      let is = values_of m.entries in
      set_is m own f k x es found (key_of-rejoined x i) (set ∙ ap (set_value (same_key k) m.entries) joined)
      ∙ ap (λ q. by_key (changed f is q)) same
      ∙ ap by_key (sym (ap (λ t. cond t (changed f is (key_of i)) (is ++ i ∷ [])) (stood x found)))

  -- it is new
  pub new_is : (es : List (IntentKey × Intent)) → get same_key m k ≡ None → es ≡ insert_entry same_key m.entries k i
      → es ≡ by_key (begun (values_of m.entries) i)
  new_is es none put =
      let f : Intent → Intent = λ held. rejoined held i in
      let is = values_of m.entries in
      put_is m own i es (ap (get same_key m) (sym same) ∙ none) (put ∙ ap (λ q. insert_entry same_key m.entries q i) same)
      ∙ ap by_key (sym (ap (λ t. cond t (changed f is (key_of i)) (is ++ i ∷ [])) (stood_not none)))

module _ {S : Type 0} (m : IndexMap IntentKey Intent S) (own : m.entries ≡ by_key (values_of m.entries)) (k : IntentKey) where
  -- one is written back as it was
  pub same_is : (x w : Intent) (es : List (IntentKey × Intent)) → get same_key m k ≡ Some x → w ≡ x
      → es ≡ set_value (same_key k) m.entries w → es ≡ by_key (values_of m.entries)
  same_is x w es found same set = set ∙ ap (set_value (same_key k) m.entries) same ∙ set_value_same (same_key k) m.entries x found ∙ own

  -- it asks another server
  pub aimed_is : (x w : Intent) (target : ℕ) (es : List (IntentKey × Intent)) → get same_key m k ≡ Some x → w ≡ aimed_at target x
      → es ≡ set_value (same_key k) m.entries w → es ≡ by_key (aimed (values_of m.entries) k target)
  aimed_is x w target es found aims set =
      set_is m own (aimed_at target) k x es found (key_of-aimed_at target x) (set ∙ ap (set_value (same_key k) m.entries) aims)

-- a change of one that is nowhere changes nothing
changed_nowhere : (f : Intent → Intent) (is : List Intent) (k : IntentKey) → intent_at is k ≡ None → changed f is k ≡ is
changed_nowhere f [] k none = refl
changed_nowhere f (i ∷ is) k none = by (has_key k i) none (changed_nowhere f is k)
  where
    by : (t : Bool) → cond t (Some i) (intent_at is k) ≡ None → (intent_at is k ≡ None → changed f is k ≡ is) → cond t (f i ∷ is) (i ∷ changed f is k) ≡ i ∷ is
    by true e rest = absurd (let x : ◌≡◌ {A = Option Intent} (Some i) None = e in cc)
    by false e rest = ap (λ xs. i ∷ xs) (rest e)

module _ {S : Type 0} (m n : IndexMap IntentKey Intent S) (same : n ≡ m) where
  -- what came to a map that is another one
  pub put_at : (i : Intent) (k : IntentKey) (es : List (IntentKey × Intent)) → es ≡ insert_entry same_key n.entries k i → es ≡ insert_entry same_key m.entries k i
  put_at i k es put = put ∙ ap (λ (o : IndexMap IntentKey Intent S). insert_entry same_key o.entries k i) same

  pub aimed_none : m.entries ≡ by_key (values_of m.entries) → (k : IntentKey) (target : ℕ) → get same_key m k ≡ None
      → values_of n.entries ≡ aimed (values_of m.entries) k target
  aimed_none own k target none =
      ap (λ (o : IndexMap IntentKey Intent S). values_of o.entries) same
      ∙ sym (changed_nowhere (aimed_at target) (values_of m.entries) k (sym (get_is m own k) ∙ none))
