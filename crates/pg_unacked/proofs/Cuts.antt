-- What a cut and an insert at an index leave of a list.
use Rattle.std.proofs.Common.{ℕ, zero, suc, ◌≡◌, ◌<◌, ◌≤◌, ◌++◌, ◌+◌, subst, Bool, true, false, ◌||◌, not, cond, List, [], ◌∷◌, length, get_or, take, drop, refl, sym, ap, ◌∙◌, arith, filter, Less, Equal, Greater}
use Rattle.std.specs.declared.cmp.Ordering.{Ordering}
use Rattle.std.specs.Ordering.{is_eq, is_lt, ordering_index, ordering_reverse}
use Rattle.std.specs.Cmp.{IsTotalOrder}
use Rattle.std.specs.List.{AllByRecursion, insert, list_any, remove}
use Rattle.std.specs.List.Sorted.{IsStrictlySortedBy, IsNonDecreasingBy}
use Rattle.std.proofs.lemmas.List.Elements.{recursion_from_All}
use Rattle.std.proofs.lemmas.List.Sorted.{searchable_from_sorted}
use Rattle.std.proofs.lemmas.Map.Keys.{Less-from_sorted}

or_swap : (a b c : Bool) → (b || (a || c)) ≡ (a || (b || c))
or_swap true true c = refl
or_swap true false c = refl
or_swap false true c = refl
or_swap false false c = refl

module _ {X : Type 0} where
  -- where a test fails within a run alone, cutting the run out is the filter
  pub kept_parts : (p : X → Bool) (xs : List X) (s e : ℕ) → s ≤ e → e ≤ length xs → ((j : ℕ) (d : X) → j < s → p (get_or xs j d) ≡ true) → ((j : ℕ) (d : X) → s ≤ j → j < e → p (get_or xs j d) ≡ false)
      → ((j : ℕ) (d : X) → e ≤ j → j < length xs → p (get_or xs j d) ≡ true) → take s xs ++ drop e xs ≡ filter p xs
  kept_parts p [] zero zero le lt before within after = refl
  kept_parts p [] zero (suc e) le lt before within after = absurd (omega arith)
  kept_parts p [] (suc s) e le lt before within after = absurd (omega arith)
  kept_parts p (x ∷ xs) zero zero le lt before within after =
      ap (λ ys. x ∷ ys) (kept_parts p xs zero zero (omega arith) (omega arith) (λ j d h. absurd (omega arith)) (λ j d g h. absurd (omega arith)) (λ j d g h. after (suc j) d (omega arith) (omega arith)))
      ∙ sym (ap (λ b. cond b (x ∷ filter p xs) (filter p xs)) (after 0 x (omega arith) (omega arith)))
  kept_parts p (x ∷ xs) zero (suc e) le lt before within after =
      kept_parts p xs zero e (omega arith) (omega arith) (λ j d h. absurd (omega arith)) (λ j d g h. within (suc j) d (omega arith) (omega arith)) (λ j d g h. after (suc j) d (omega arith) (omega arith))
      ∙ sym (ap (λ b. cond b (x ∷ filter p xs) (filter p xs)) (within 0 x (omega arith) (omega arith)))
  kept_parts p (x ∷ xs) (suc s) zero le lt before within after = absurd (omega arith)
  kept_parts p (x ∷ xs) (suc s) (suc e) le lt before within after =
      ap (λ ys. x ∷ ys)
      (kept_parts p xs s e (omega arith) (omega arith) (λ j d h. before (suc j) d (omega arith)) (λ j d g h. within (suc j) d (omega arith) (omega arith)) (λ j d g h. after (suc j) d (omega arith) (omega arith)))
      ∙ sym (ap (λ b. cond b (x ∷ filter p xs) (filter p xs)) (before 0 x (omega arith)))

  -- where it holds of all, the filter is the list
  pub kept_all : (p : X → Bool) (xs : List X) → ((j : ℕ) (d : X) → j < length xs → p (get_or xs j d) ≡ true) → xs ≡ filter p xs
  kept_all p xs all = kept_parts p xs 0 0 (omega arith) (omega arith) (λ j d h. absurd (omega arith)) (λ j d g h. absurd (omega arith)) (λ j d g h. all j d h)

  pub any_insert : (p : X → Bool) (x : X) (xs : List X) (i : ℕ) → list_any p (insert xs i x) ≡ (p x || list_any p xs)
  any_insert p x [] zero = refl
  any_insert p x [] (suc i) = refl
  any_insert p x (y ∷ ys) zero = refl
  any_insert p x (y ∷ ys) (suc i) = ap (λ b. p y || b) (any_insert p x ys i) ∙ or_swap (p x) (p y) (list_any p ys)

  all_insert : (P : X → Type 0) (x : X) (xs : List X) (i : ℕ) → AllByRecursion P xs → P x → AllByRecursion P (insert xs i x)
  all_insert P x [] zero all one = (one, tt)
  all_insert P x [] (suc i) all one = (one, tt)
  all_insert P x (y ∷ ys) zero all one = (one, all)
  all_insert P x (y ∷ ys) (suc i) all one = (all.0, all_insert P x ys i all.1 one)

module _ {X : Type 0} (R : X → X → Ordering) where
  -- an element that goes between smaller and greater ones
  pub sorted_insert : (x : X) (xs : List X) (i : ℕ) → IsStrictlySortedBy R xs → i ≤ length xs → ((j : ℕ) (d : X) → j < i → R (get_or xs j d) x ≡ Less) → ((j : ℕ) (d : X) → i ≤ j → j < length xs → R x (get_or xs j d) ≡ Less) → IsStrictlySortedBy R (insert xs i x)
  unfolding IsStrictlySortedBy
  sorted_insert x [] zero sorted le before after = (tt, tt)
  sorted_insert x [] (suc i) sorted le before after = absurd (omega arith)
  sorted_insert x (y ∷ ys) zero sorted le before after = (recursion_from_All (λ z. R x z ≡ Less) (y ∷ ys) (λ j d lt. after j d (omega arith) lt), sorted)
  sorted_insert x (y ∷ ys) (suc i) sorted le before after =
      (all_insert (λ z. R y z ≡ Less) x ys i sorted.0 (before 0 y (omega arith)), sorted_insert x ys i sorted.1 (omega arith) (λ j d lt. before (suc j) d (omega arith)) (λ j d g lt. after (suc j) d (omega arith) (omega arith)))

  pub searchable : IsTotalOrder R → (xs : List X) (q : X) → IsStrictlySortedBy R xs → IsNonDecreasingBy (λ x. ordering_index (R x q)) xs
  searchable o xs q sorted =
      searchable_from_sorted o (λ (x : X). x) xs q (λ k d from lt.
      ap is_lt (o.antisymm (get_or xs (k + 1) d) (get_or xs k d) ∙ ap ordering_reverse (Less-from_sorted R xs k (k + 1) d sorted (omega arith) lt)))

  -- the others of the element at an index
  pub others_at : IsTotalOrder R → (q : X) (xs : List X) (i : ℕ) → IsStrictlySortedBy R xs → i < length xs → ((d : X) → R (get_or xs i d) q ≡ Equal) → remove xs i ≡ filter (λ x. not (is_eq (R q x))) xs
  others_at o q xs i sorted lt equal =
      let alike : (d : X) → R q (get_or xs i d) ≡ Equal = λ d. o.antisymm q (get_or xs i d) ∙ ap ordering_reverse (equal d) in
      let there : (j : ℕ) (d : X) → i ≡ j → R q (get_or xs j d) ≡ Equal = λ j d e. subst (λ k. R q (get_or xs k d) ≡ Equal) e (alike d) in
      let less : (j : ℕ) (d : X) → j < i → R q (get_or xs j d) ≡ Greater = λ j d up.
      o.congr q (get_or xs i d) (get_or xs j d) (alike d) ∙ o.antisymm (get_or xs i d) (get_or xs j d) ∙ ap ordering_reverse (Less-from_sorted R xs j i d sorted up lt) in
      let more : (j : ℕ) (d : X) → i < j → j < length xs → R q (get_or xs j d) ≡ Less = λ j d up below.
      o.congr q (get_or xs i d) (get_or xs j d) (alike d) ∙ Less-from_sorted R xs i j d sorted up below in
      kept_parts (λ x. not (is_eq (R q x))) xs i (suc i) (omega arith) (omega arith) (λ j d up. ap (λ r. not (is_eq r)) (less j d up)) (λ j d g h. ap (λ r. not (is_eq r)) (there j d (omega arith)))
      (λ j d g h. ap (λ r. not (is_eq r)) (more j d (omega arith) h))
