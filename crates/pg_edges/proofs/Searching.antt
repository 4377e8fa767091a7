-- Entries in the order of their keys, searched by halves: what is found at an index, and what an
-- edit there leaves.
use Rattle.std.proofs.Common.{ℕ, zero, suc, ◌≡◌, ◌<◌, ◌≤◌, ◌+◌, Bool, true, false, not, cond, List, [], ◌∷◌, length, get_or, set, insert, remove, None, Some, refl, sym, ap, ◌∙◌, arith, filter, Less, Equal, Greater, Result, Ok, Err, IfOk, IfErr, subst}
use Rattle.std.specs.declared.cmp.Ordering.{Ordering}
use Rattle.std.specs.Ordering.{is_eq, is_lt, ordering_index, ordering_reverse}
use Rattle.std.specs.Cmp.{IsTotalOrder}
use Rattle.std.specs.BTreeMap.{is_at}
use Rattle.std.specs.Map.{keys_of, lookup}
use Rattle.std.specs.List.{AllByRecursion}
use Rattle.std.specs.List.Sorted.{IsStrictlySortedBy, IsNonDecreasingBy, IsSearchInRange, IsBinarySearchResult, IsPartitionPoint}
use Rattle.std.proofs.lemmas.List.{get_or-map}
use Rattle.std.proofs.lemmas.List.Kept.{IsStrictlySortedBy-filter}
use Rattle.std.proofs.lemmas.List.Sorted.{searchable_from_sorted}
use Rattle.std.proofs.lemmas.Map.Keys.{sorted_head, sorted_tail, Less-from_sorted}
use Rattle.std.proofs.lemmas.Map.Entries.{length-keys_of}
use Rattle.pg_base.proofs.Entries.{insert_entry-gap, insert_entry-place, lookup-gap, lookup-place, IsStrictlySortedBy-insert_entry}
use Rattle.pg_edges.specs.declared.key.Key.{Key}
use Rattle.pg_edges.specs.Key.{key_cmp}
use Rattle.pg_edges.specs.contracts.key.KeyOrd.TheImpl as derived
use Rattle.pg_edges.specs.Keys.{IsAt, IsGap}
use Rattle.pg_edges.proofs.Orders.{key_total, key_exact, key_order_is}

module _ {K X : Type 0} (R : K → K → Ordering) where
  -- all entries but those at a key
  abbrev others : K → List (K × X) → List (K × X)
  others q es = filter (λ (e : K × X). not (is_eq (R q e.0))) es

  others_by : (q : K) (e : K × X) (es : List (K × X)) (o : Ordering) → R q e.0 ≡ o → others q (e ∷ es) ≡ cond (not (is_eq o)) (e ∷ others q es) (others q es)
  others_by q e es o h = ap (λ r. cond (not (is_eq r)) (e ∷ others q es) (others q es)) h

  -- a key that is not there
  kept_by : (q : K) (e : K × X) (es : List (K × X)) (o : Ordering) → R q e.0 ≡ o → cond (is_eq o) (Some e.1) (lookup (is_at (R q)) es) ≡ None → (lookup (is_at (R q)) es ≡ None → others q es ≡ es) → others q (e ∷ es) ≡ e ∷ es
  kept_by q e es Less w h next = others_by q e es Less w ∙ ap (λ xs. e ∷ xs) (next h)
  kept_by q e es Equal w h next = absurd (let z : Some e.1 ≡ None = h in cc)
  kept_by q e es Greater w h next = others_by q e es Greater w ∙ ap (λ xs. e ∷ xs) (next h)

  others-none : (q : K) (es : List (K × X)) → lookup (is_at (R q)) es ≡ None → others q es ≡ es
  others-none q [] h = refl
  others-none q (e ∷ es) h = kept_by q e es (R q e.0) refl h (others-none q es)

  -- no key behind is equal to one that is equal to the first
  others-above : IsTotalOrder R → (q k : K) (es : List (K × X)) → R q k ≡ Equal → AllByRecursion (λ y. R k y ≡ Less) (keys_of es) → others q es ≡ es
  others-above o q k [] e l = refl
  others-above o q k (f ∷ es) e l = others_by q f es Less (o.congr q k f.0 e ∙ l.0) ∙ ap (λ xs. f ∷ xs) (others-above o q k es e l.1)

  -- an earlier key is below a later one
  less_at : (es : List (K × X)) (i j : ℕ) (d : K × X) → IsStrictlySortedBy R (keys_of es) → i < j → j < length es → R (get_or es i d).0 (get_or es j d).0 ≡ Less
  less_at es i j d sorted up lt =
      let first : get_or (keys_of es) i d.0 ≡ (get_or es i d).0 = get_or-map (λ (e : K × X). e.0) es i d d.0 (omega arith) in
      let second : get_or (keys_of es) j d.0 ≡ (get_or es j d).0 = get_or-map (λ (e : K × X). e.0) es j d d.0 lt in
      let less = Less-from_sorted R (keys_of es) i j d.0 sorted up (omega (arith, length-keys_of es)) in
      subst (λ x. R (get_or es i d).0 x ≡ Less) second (subst (λ x. R x (get_or (keys_of es) j d.0) ≡ Less) first less)

  -- a key that stands at the index
  remove-at : IsTotalOrder R → (q : K) (es : List (K × X)) (i : ℕ) (d : K × X) → IsStrictlySortedBy R (keys_of es) → i < length es → R q (get_or es i d).0 ≡ Equal → remove es i ≡ others q es
  remove-at o q [] i d sorted lt same = absurd (omega arith)
  remove-at o q (e ∷ es) zero d sorted lt same = sym (others_by q e es Equal same ∙ others-above o q e.0 es same (sorted_head R e.0 (keys_of es) sorted))
  remove-at o q (e ∷ es) (suc i) d sorted lt same =
      let up : R e.0 (get_or es i d).0 ≡ Less = less_at (e ∷ es) 0 (suc i) d sorted (omega arith) lt in
      let past : R q e.0 ≡ Greater = o.congr q (get_or es i d).0 e.0 same ∙ o.antisymm (get_or es i d).0 e.0 ∙ ap ordering_reverse up in
      ap (λ xs. e ∷ xs) (remove-at o q es i d (sorted_tail R _ _ sorted) (omega arith) same) ∙ sym (others_by q e es Greater past)

  -- what a search by halves asks for
  searchable : IsTotalOrder R → (es : List (K × X)) (q : K) → IsStrictlySortedBy R (keys_of es) → IsNonDecreasingBy (λ e. ordering_index (R e.0 q)) es
  searchable o es q sorted =
      searchable_from_sorted o (λ (e : K × X). e.0) es q (λ k d from lt.
      ap is_lt (o.antisymm (get_or es (k + 1) d).0 (get_or es k d).0 ∙ ap ordering_reverse (less_at es k (k + 1) d sorted (omega arith) lt)))

  -- the order stays where a key goes
  keys_by : (b : Bool) (e : K × X) (es : List (K × X)) (ks : List K) → keys_of es ≡ ks → keys_of (cond b (e ∷ es) es) ≡ cond b (e.0 ∷ ks) ks
  keys_by true e es ks h = ap (λ xs. e.0 ∷ xs) h
  keys_by false e es ks h = h

  keys_of-others : (q : K) (es : List (K × X)) → keys_of (others q es) ≡ filter (λ k. not (is_eq (R q k))) (keys_of es)
  keys_of-others q [] = refl
  keys_of-others q (e ∷ es) = keys_by (not (is_eq (R q e.0))) e (others q es) _ (keys_of-others q es)

  sorted-others : (q : K) (es : List (K × X)) → IsStrictlySortedBy R (keys_of es) → IsStrictlySortedBy R (keys_of (others q es))
  sorted-others q es h = subst (IsStrictlySortedBy R) (sym (keys_of-others q es)) (IsStrictlySortedBy-filter R (λ k. not (is_eq (R q k))) (keys_of es) h)

-- ---- the keys of an edge

abbrev pub AreOrdered : List (Key × ℕ) → Type 0
AreOrdered keys = IsStrictlySortedBy key_cmp (keys_of keys)

pub ordered-nil : (keys : List (Key × ℕ)) → keys ≡ [] → AreOrdered keys
unfolding IsStrictlySortedBy
ordered-nil keys e = subst AreOrdered (sym e) tt

pub ordered-one : (key : Key) (n : ℕ) → AreOrdered ((key, n) ∷ [])
unfolding IsStrictlySortedBy
ordered-one key n = (tt, tt)

-- and it stays at each edit. `items` are those that the field has, and `keys` the value
same_at : (items keys : List (Key × ℕ)) (key : Key) (i : ℕ) → items ≡ keys → IsAt keys key i → IsAt items key i
same_at items keys key i v at = subst (λ (ks : List (Key × ℕ)). IsAt ks key i) (sym v) at

pub put_at : (items keys : List (Key × ℕ)) (key : Key) (i n : ℕ) → AreOrdered items → items ≡ keys → IsAt keys key i → AreOrdered (set items i (key, n))
put_at items keys key i n sorted v at = subst AreOrdered (sym ((same_at items keys key i v at).write n)) (IsStrictlySortedBy-insert_entry key_cmp key_total key n items sorted)

pub take_at : (items keys new : List (Key × ℕ)) (key : Key) (i : ℕ) → AreOrdered items → items ≡ keys → IsAt keys key i → new ≡ remove items i → AreOrdered new
take_at items keys new key i sorted v at e = subst AreOrdered (sym (e ∙ (same_at items keys key i v at).take)) (sorted-others key_cmp key items sorted)

pub put_gap : (items keys new : List (Key × ℕ)) (key : Key) (i n : ℕ) → AreOrdered items → items ≡ keys → IsGap keys key i → new ≡ insert items i (key, n) → AreOrdered new
put_gap items keys new key i n sorted v gap e =
    let P : List (Key × ℕ) → Type 0 = λ ks. IsGap ks key i in
    subst AreOrdered (sym (e ∙ (subst P (sym v) gap).write n)) (IsStrictlySortedBy-insert_entry key_cmp key_total key n items sorted)

found_at : (keys : List (Key × ℕ)) (key : Key) (i : ℕ) → IsStrictlySortedBy key_cmp (keys_of keys) → i < length keys → ((d : Key × ℕ) → key_cmp (get_or keys i d).0 key ≡ Equal) → IsAt keys key i
found_at keys key i sorted lt equal = record {
  below = lt;
  tag = λ d.
      let same : (get_or keys i d).0 ≡ key = key_exact _ key (equal d) in
      lookup-place key_cmp key_total key (get_or keys i d).1 keys i d sorted lt (λ j. (same j, (get_or keys i d).1));
  write = λ n. insert_entry-place key_cmp key_total key n keys i (key, n) sorted lt (key_exact _ key (equal (key, n)));
  take = remove-at key_cmp key_total key keys i (key, 0) sorted lt (key_total.antisymm key _ ∙ ap ordering_reverse (equal (key, 0)));
}

gap_at : (keys : List (Key × ℕ)) (key : Key) (i : ℕ) → i ≤ length keys → IsPartitionPoint (λ (e : Key × ℕ). key_cmp e.0 key ≡ Less) (λ e. key_cmp e.0 key ≡ Greater) keys i → IsGap keys key i
gap_at keys key i le parted =
    let before = λ (j : ℕ) (d : Key × ℕ) (lt : j < i). key_total.antisymm key (get_or keys j d).0 ∙ ap ordering_reverse (parted.0 j d (omega arith) lt) in
    let after = λ (j : ℕ) (d : Key × ℕ) (from : i ≤ j) (lt : j < length keys). key_total.antisymm key (get_or keys j d).0 ∙ ap ordering_reverse (parted.1 j d from lt) in
    let none = lookup-gap key_cmp key keys i before after in
    record {
      upto = le;
      tag = none;
      write = λ n. insert_entry-gap key_cmp key n keys i le before after;
      take = others-none key_cmp key keys none;
    }

searched_here : (keys : List (Key × ℕ)) (key : Key) (r : Result ℕ ℕ) → AreOrdered keys → IsSearchInRange r (length keys) → IsBinarySearchResult (λ (e : Key × ℕ). key_cmp e.0 key) keys r → IfOk r (IsAt keys key) × IfErr r (IsGap keys key)
searched_here keys key (Ok i) sorted within equal = (found_at keys key i sorted within equal, tt)
searched_here keys key (Err i) sorted within parted = (tt, gap_at keys key i within (parted (searchable key_cmp key_total keys key sorted)))

-- by the derived order, which is the one of the definition
abbrev derived_cmp : Key → Key → Ordering
derived_cmp = (derived.cmp-value).it

pub searched : (keys : List (Key × ℕ)) (key : Key) (r : Result ℕ ℕ) → AreOrdered keys → IsSearchInRange r (length keys) → IsBinarySearchResult (λ (e : Key × ℕ). derived_cmp e.0 key) keys r → IfOk r (IsAt keys key) × IfErr r (IsGap keys key)
searched keys key r sorted within found =
    searched_here keys key r sorted within (subst (λ (o : Key → Key → Ordering). IsBinarySearchResult (λ (e : Key × ℕ). o e.0 key) keys r) key_order_is found)
