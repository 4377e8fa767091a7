-- Where an actor stands in a vector, and what a write and an insert there make.
use Rattle.std.proofs.Common.{◌≡◌, ℕ, ◌+◌, ◌<◌, ◌≤◌, ◌^◌, max, Some, unwrap_or, List, length, get_or, set, Result, Ok, Err, IfOk, IfErr, inl, inr, refl, sym, ap, subst, ◌∙◌, arith, Less, Equal, Greater}
use Rattle.std.specs.Ordering.{is_lt, ordering_index, ordering_reverse}
use Rattle.std.specs.List.{insert}
use Rattle.std.specs.List.Sorted.{IsNonDecreasingBy, IsSearchInRange, IsBinarySearchResult, IsPartitionPoint}
use Rattle.std.specs.Map.{keys_of}
use Rattle.std.specs.BTreeMap.{insert_entry}
use Rattle.std.proofs.lemmas.Bool.{cases_lt}
use Rattle.std.proofs.lemmas.List.{get_or-map, set-get_or}
use Rattle.std.proofs.lemmas.List.Sorted.{searchable_from_sorted}
use Rattle.std.proofs.lemmas.Map.Keys.{Less-from_sorted}
use Rattle.std.proofs.lemmas.Map.Entries.{length-keys_of}
use Rattle.std.proofs.lemmas.Option.{slice_get-get_or, get_or_from_slice_get}
use Rattle.pg_base.specs.declared.vector.Actor.{Actor}
use Rattle.pg_base.specs.Vector.{actor_cmp, IsVector, number_at, raised, IsAt, IsGap}
use Rattle.pg_base.proofs.Entries.{insert_entry-gap, insert_entry-place, lookup-gap, lookup-place}
use Rattle.pg_base.proofs.Vectors.{Entry, actor_total, actor_exact, IsVector-raised, raised-more, raised-zero}

-- ---- a search
less_places : (es : List Entry) → IsVector es → (i j : ℕ) (d : Entry) → i < j → j < length es → actor_cmp (get_or es i d).0 (get_or es j d).0 ≡ Less
less_places es v i j d up lt =
    let first : get_or (keys_of es) i d.0 ≡ (get_or es i d).0 = get_or-map (λ (e : Entry). e.0) es i d d.0 (omega arith) in
    let second : get_or (keys_of es) j d.0 ≡ (get_or es j d).0 = get_or-map (λ (e : Entry). e.0) es j d d.0 lt in
    let less = Less-from_sorted actor_cmp (keys_of es) i j d.0 v.sorted up (omega (arith, length-keys_of es)) in
    subst (λ x. actor_cmp (get_or es i d).0 x ≡ Less) second (subst (λ x. actor_cmp x (get_or (keys_of es) j d.0) ≡ Less) first less)

rises : (es : List Entry) (a : Actor) → IsVector es → IsNonDecreasingBy (λ e. ordering_index (actor_cmp e.0 a)) es
rises es a v =
    searchable_from_sorted actor_total (λ (e : Entry). e.0) es a (λ k d from lt.
    ap is_lt (actor_total.antisymm (get_or es (k + 1) d).0 (get_or es k d).0 ∙ ap ordering_reverse (less_places es v k (k + 1) d (omega arith) lt)))

found_at : (es : List Entry) (a : Actor) (i : ℕ) (e : Entry) → IsVector es → i < length es → get_or es i (a, 0) ≡ e → actor_cmp e.0 a ≡ Equal → IsAt es a i
found_at es a i e v lt read equal =
    let same = actor_exact e.0 a equal in
    let entry : get_or es i (a, 0) ≡ (a, e.1) = read ∙ (λ j. (same j, e.1)) in
    let number : number_at es a ≡ e.1 = ap (λ o. unwrap_or o 0) (lookup-place actor_cmp actor_total a e.1 es i (a, 0) v.sorted lt entry) in
    record {
      entry = slice_get-get_or es i (a, 0) lt ∙ ap Some (entry ∙ (λ j. (a, sym number j)));
      write = λ n. insert_entry-place actor_cmp actor_total a n es i (a, 0) v.sorted lt (ap (λ (x : Entry). x.0) entry);
    }

gap_at : (es : List Entry) (a : Actor) (i : ℕ) → i ≤ length es → IsPartitionPoint (λ (e : Entry). actor_cmp e.0 a ≡ Less) (λ e. actor_cmp e.0 a ≡ Greater) es i → IsGap es a i
gap_at es a i le parted =
    let before = λ (j : ℕ) (d : Entry) (lt : j < i). actor_total.antisymm a (get_or es j d).0 ∙ ap ordering_reverse (parted.0 j d (omega arith) lt) in
    let after = λ (j : ℕ) (d : Entry) (from : i ≤ j) (lt : j < length es). actor_total.antisymm a (get_or es j d).0 ∙ ap ordering_reverse (parted.1 j d from lt) in
    record {
      none = ap (λ o. unwrap_or o 0) (lookup-gap actor_cmp a es i before after);
      range = le;
      write = λ n. insert_entry-gap actor_cmp a n es i le before after;
    }

pub searched : (es : List Entry) (a : Actor) (r : Result ℕ ℕ) → IsVector es → IsSearchInRange r (length es) → IsBinarySearchResult (λ (e : Entry). actor_cmp e.0 a) es r → IfOk r (IsAt es a) × IfErr r (IsGap es a)
searched es a (Ok i) v within equal = (found_at es a i (get_or es i (a, 0)) v within refl (equal (a, 0)), tt)
searched es a (Err i) v within parted = (tt, gap_at es a i within (parted (rises es a v)))

-- ---- a raise in index
pub raised-at : (es : List Entry) (a : Actor) (i n m : ℕ) → IsAt es a i → m ≡ max (number_at es a) n → set es i (a, m) ≡ raised es a n
raised-at es a i n m at e =
    elim (cases_lt n 1) [
      | inl none ↦
          let kept : m ≡ number_at es a = omega arith in
          let read : get_or es i (a, 0) ≡ (a, number_at es a) = get_or_from_slice_get es i (a, number_at es a) (a, 0) at.entry in
          ap (λ x. set es i (a, x)) kept ∙ ap (set es i) (sym read) ∙ set-get_or es i (a, 0) ∙ sym (raised-zero es a n (omega arith))
      | inr more ↦ at.write m ∙ ap (insert_entry actor_cmp es a) e ∙ sym (raised-more es a n more)
    ]

pub raised-gap : (es : List Entry) (a : Actor) (i n : ℕ) → IsGap es a i → 1 ≤ n → insert es i (a, n) ≡ raised es a n
raised-gap es a i n gap more =
    let alone : max (number_at es a) n ≡ n = omega (arith, gap.none) in
    gap.write n ∙ ap (insert_entry actor_cmp es a) (sym alone) ∙ sym (raised-more es a n more)

-- what a write over the actor's entry made, and what a new entry made
pub raised_set : (inside es : List Entry) (a : Actor) (i n m : ℕ) (r : Entry) → IsVector inside → inside ≡ es → IsAt es a i → r ≡ get_or inside i r → m ≡ max r.1 n → a.server < 2 ^ 32 → a.birth < 2 ^ 64 → n < 2 ^ 64 → IsVector (set inside i (a, m)) × (set inside i (a, m) ≡ raised es a n)
raised_set inside es a i n m r v view at read e hs hb hn =
    let entry : get_or es i r ≡ (a, number_at es a) = get_or_from_slice_get es i (a, number_at es a) r at.entry in
    let number : m ≡ max (number_at es a) n = e ∙ ap (λ (x : Entry). max x.1 n) (read ∙ ap (λ xs. get_or xs i r) view ∙ entry) in
    let is : set inside i (a, m) ≡ raised es a n = ap (λ xs. set xs i (a, m)) view ∙ raised-at es a i n m at number in
    (subst IsVector (sym is) (IsVector-raised es a n (subst IsVector view v) hs hb hn), is)

pub raised_insert : (inside es new : List Entry) (a : Actor) (i n : ℕ) → IsVector inside → inside ≡ es → IsGap es a i → new ≡ insert inside i (a, n) → 1 ≤ n → a.server < 2 ^ 32 → a.birth < 2 ^ 64 → n < 2 ^ 64 → IsVector new × (new ≡ raised es a n)
raised_insert inside es new a i n v view gap e more hs hb hn =
    let is : new ≡ raised es a n = e ∙ ap (λ xs. insert xs i (a, n)) view ∙ raised-gap es a i n gap more in
    (subst IsVector (sym is) (IsVector-raised es a n (subst IsVector view v) hs hb hn), is)
