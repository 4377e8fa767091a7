-- Ids in their order, searched by halves: what is found at an index, and what an edit there leaves.
use Rattle.std.proofs.Common.{ℕ, zero, suc, ◌≡◌, ◌<◌, ◌≤◌, ◌+◌, Bool, true, false, not, ◌&&◌, ◌||◌, List, [], ◌∷◌, length, get_or, insert, remove, refl, sym, ap, ◌∙◌, arith, inl, inr, Less, Equal, Greater, Result, Ok, Err, IfOk, IfErr, subst}
use Rattle.std.specs.declared.cmp.Ordering.{Ordering}
use Rattle.std.specs.Ordering.{is_eq, is_lt, ordering_index, ordering_reverse}
use Rattle.std.specs.List.{AllByRecursion}
use Rattle.std.specs.List.Sorted.{IsStrictlySortedBy, IsNonDecreasingBy, IsSearchInRange, IsBinarySearchResult}
use Rattle.std.proofs.lemmas.Bool.{cases_lt}
use Rattle.std.proofs.lemmas.List.Elements.{recursion_from_All}
use Rattle.std.proofs.lemmas.List.Folds.{list_any_none}
use Rattle.std.proofs.lemmas.List.Sorted.{searchable_from_sorted}
use Rattle.std.proofs.lemmas.Map.Keys.{sorted_head, sorted_tail, Less-from_sorted}
use Rattle.pg_base.specs.declared.id.FileId.{FileId}
use Rattle.pg_base.specs.Id.{file_cmp, is_same_file}
use Rattle.pg_base.specs.contracts.id.FileIdOrd.TheImpl as derived
use Rattle.pg_base.proofs.Orders.{file_total, file_exact, file_order_is, is_same_file-refl, is_same_file-true}
use Rattle.pg_index.specs.Ids.{is_one_of, IsAt, IsGap}
use Rattle.pg_index.proofs.Members.{same_sym}

abbrev pub AreOrdered : List FileId → Type 0
AreOrdered ids = IsStrictlySortedBy file_cmp ids

-- all are above this id
abbrev AreAbove : FileId → List FileId → Type 0
AreAbove file ids = AllByRecursion (λ y. file_cmp file y ≡ Less) ids

-- ---- the order at an edit

module _ (P : FileId → Type 0) where
  all-insert : (ids : List FileId) (i : ℕ) (file : FileId) → AllByRecursion P ids → P file → AllByRecursion P (insert ids i file)
  all-insert [] zero file h one = (one, tt)
  all-insert [] (suc i) file h one = (one, tt)
  all-insert (x ∷ xs) zero file h one = (one, h)
  all-insert (x ∷ xs) (suc i) file h one = (h.0, all-insert xs i file h.1 one)

  all-remove : (ids : List FileId) (i : ℕ) → AllByRecursion P ids → AllByRecursion P (remove ids i)
  all-remove [] zero h = tt
  all-remove [] (suc i) h = tt
  all-remove (x ∷ xs) zero h = h.1
  all-remove (x ∷ xs) (suc i) h = (h.0, all-remove xs i h.1)

sorted_cons : (x : FileId) (xs : List FileId) → AreAbove x xs → AreOrdered xs → AreOrdered (x ∷ xs)
unfolding IsStrictlySortedBy
sorted_cons x xs above sorted = (above, sorted)

pub sorted_none : (ids : List FileId) → ids ≡ [] → AreOrdered ids
unfolding IsStrictlySortedBy
sorted_none ids none = subst AreOrdered (sym none) tt

-- an id goes before the index
abbrev IsBetween : List FileId → ℕ → FileId → Type 0
IsBetween ids i file = ((j : ℕ) (d : FileId) → j < i → file_cmp (get_or ids j d) file ≡ Less) × ((j : ℕ) (d : FileId) → i ≤ j → j < length ids → file_cmp file (get_or ids j d) ≡ Less)

sorted-insert : (ids : List FileId) (i : ℕ) (file : FileId) → i ≤ length ids → IsBetween ids i file → AreOrdered ids → AreOrdered (insert ids i file)
sorted-insert [] zero file le between sorted = sorted_cons file [] tt sorted
sorted-insert [] (suc i) file le between sorted = absurd (omega arith)
sorted-insert (x ∷ xs) zero file le between sorted = sorted_cons file (x ∷ xs) (recursion_from_All (λ y. file_cmp file y ≡ Less) (x ∷ xs) (λ j d lt. between.1 j d (omega arith) lt)) sorted
sorted-insert (x ∷ xs) (suc i) file le between sorted =
    sorted_cons x (insert xs i file) (all-insert (λ y. file_cmp x y ≡ Less) xs i file (sorted_head file_cmp x xs sorted) (between.0 0 x (omega arith)))
    (sorted-insert xs i file (omega arith) ((λ j d lt. between.0 (suc j) d (omega arith)), (λ j d from lt. between.1 (suc j) d (omega arith) (omega arith))) (sorted_tail file_cmp x xs sorted))

sorted-remove : (ids : List FileId) (i : ℕ) → AreOrdered ids → AreOrdered (remove ids i)
sorted-remove [] zero sorted = sorted
sorted-remove [] (suc i) sorted = sorted
sorted-remove (x ∷ xs) zero sorted = sorted_tail file_cmp x xs sorted
sorted-remove (x ∷ xs) (suc i) sorted = sorted_cons x (remove xs i) (all-remove (λ y. file_cmp x y ≡ Less) xs i (sorted_head file_cmp x xs sorted)) (sorted-remove xs i (sorted_tail file_cmp x xs sorted))

-- ---- which ids are there after an edit

not_same : (a b : FileId) → file_cmp a b ≡ Less → is_same_file a b ≡ false
not_same a b less = ap is_eq less

or_second : (b s r : Bool) → (b || (s || r)) ≡ (s || (b || r))
or_second true true r = refl
or_second true false r = refl
or_second false s r = refl

one-insert : (ids : List FileId) (i : ℕ) (file q : FileId) → i ≤ length ids → is_one_of q (insert ids i file) ≡ (is_same_file file q || is_one_of q ids)
one-insert [] zero file q le = ap (λ b. b || false) (same_sym q file)
one-insert [] (suc i) file q le = absurd (omega arith)
one-insert (x ∷ xs) zero file q le = ap (λ b. b || is_one_of q (x ∷ xs)) (same_sym q file)
one-insert (x ∷ xs) (suc i) file q le = ap (λ r. is_same_file q x || r) (one-insert xs i file q (omega arith)) ∙ or_second (is_same_file q x) (is_same_file file q) (is_one_of q xs)

-- none above an id is that id
none_above : (file : FileId) (ids : List FileId) → AreAbove file ids → is_one_of file ids ≡ false
none_above file [] h = refl
none_above file (x ∷ xs) h = ap (λ b. b || is_one_of file xs) (not_same file x h.0) ∙ none_above file xs h.1

head_by : (file q : FileId) (xs : List FileId) (b : Bool) → is_same_file file q ≡ b → AreAbove file xs → is_one_of q xs ≡ (not b && (b || is_one_of q xs))
head_by file q xs true same above = ap (λ p. is_one_of p xs) (sym (is_same_file-true file q same)) ∙ none_above file xs above
head_by file q xs false same above = refl

later_by : (b s r : Bool) → (b ≡ true → s ≡ false) → (b || (not s && r)) ≡ (not s && (b || r))
later_by true s r h = ap (λ t. not t && true) (sym (h refl)) ∙ refl
later_by false s r h = refl

one-remove : (ids : List FileId) (i : ℕ) (file q : FileId) → AreOrdered ids → i < length ids → get_or ids i file ≡ file → is_one_of q (remove ids i) ≡ (not (is_same_file file q) && is_one_of q ids)
one-remove [] i file q sorted lt same = absurd (omega arith)
one-remove (x ∷ xs) zero file q sorted lt same =
    let above : AreAbove file xs = subst (λ y. AreAbove y xs) same (sorted_head file_cmp x xs sorted) in
    head_by file q xs (is_same_file file q) refl above
    ∙ ap (λ b. not (is_same_file file q) && (b || is_one_of q xs)) (same_sym file q ∙ ap (is_same_file q) (sym same))
one-remove (x ∷ xs) (suc i) file q sorted lt same =
    let up : file_cmp x file ≡ Less = subst (λ y. file_cmp x y ≡ Less) same (Less-from_sorted file_cmp (x ∷ xs) 0 (suc i) file sorted (omega arith) lt) in
    let apart : is_same_file q x ≡ true → is_same_file file q ≡ false = λ h. same_sym file q ∙ ap (λ p. is_same_file p file) (is_same_file-true q x h) ∙ not_same x file up in
    ap (λ r. is_same_file q x || r) (one-remove xs i file q (sorted_tail file_cmp x xs sorted) (omega arith) same)
    ∙ later_by (is_same_file q x) (is_same_file file q) (is_one_of q xs) apart

or_true : (b : Bool) → (b || true) ≡ true
or_true true = refl
or_true false = refl

one_at : (ids : List FileId) (i : ℕ) (file : FileId) → i < length ids → get_or ids i file ≡ file → is_one_of file ids ≡ true
one_at [] i file lt same = absurd (omega arith)
one_at (x ∷ xs) zero file lt same = ap (λ b. b || is_one_of file xs) (ap (is_same_file file) same ∙ is_same_file-refl file)
one_at (x ∷ xs) (suc i) file lt same = ap (λ r. is_same_file file x || r) (one_at xs i file (omega arith) same) ∙ or_true (is_same_file file x)

-- what is there already, and what is not
more_by : (file q : FileId) (ids : List FileId) (b : Bool) → is_same_file file q ≡ b → is_one_of file ids ≡ true → is_one_of q ids ≡ (b || is_one_of q ids)
more_by file q ids true same one = ap (λ p. is_one_of p ids) (sym (is_same_file-true file q same)) ∙ one
more_by file q ids false same one = refl

less_by : (file q : FileId) (ids : List FileId) (b : Bool) → is_same_file file q ≡ b → is_one_of file ids ≡ false → is_one_of q ids ≡ (not b && is_one_of q ids)
less_by file q ids true same none = ap (λ p. is_one_of p ids) (sym (is_same_file-true file q same)) ∙ none
less_by file q ids false same none = refl

none_between : (ids : List FileId) (i : ℕ) (file : FileId) → IsBetween ids i file → is_one_of file ids ≡ false
none_between ids i file between =
    list_any_none (is_same_file file) ids (λ j d lt.
    elim (cases_lt j i) [
      | inl below ↦ same_sym file (get_or ids j d) ∙ not_same (get_or ids j d) file (between.0 j d below)
      | inr from ↦ not_same file (get_or ids j d) (between.1 j d from lt)
    ])

-- ---- a search

at_place : (ids : List FileId) (file : FileId) (i : ℕ) → AreOrdered ids → i < length ids → get_or ids i file ≡ file → IsAt ids file i
at_place ids file i sorted lt same =
    let there = one_at ids i file lt same in
    record {
      below = lt;
      one = there;
      more = λ q. more_by file q ids (is_same_file file q) refl there;
      less = λ q. one-remove ids i file q sorted lt same;
      ordered = sorted-remove ids i sorted;
    }

pub at_gap : (ids : List FileId) (file : FileId) (i : ℕ) → AreOrdered ids → i ≤ length ids → IsBetween ids i file → IsGap ids file i
at_gap ids file i sorted le between =
    let none = none_between ids i file between in
    record {
      upto = le;
      one = none;
      more = λ q. one-insert ids i file q le;
      less = λ q. less_by file q ids (is_same_file file q) refl none;
      ordered = sorted-insert ids i file le between sorted;
    }

searchable : (ids : List FileId) (file : FileId) → AreOrdered ids → IsNonDecreasingBy (λ y. ordering_index (file_cmp y file)) ids
searchable ids file sorted =
    searchable_from_sorted file_total (λ (y : FileId). y) ids file (λ k d from lt.
    ap is_lt (file_total.antisymm (get_or ids (k + 1) d) (get_or ids k d) ∙ ap ordering_reverse (Less-from_sorted file_cmp ids k (k + 1) d sorted (omega arith) lt)))

searched_here : (ids : List FileId) (file : FileId) (r : Result ℕ ℕ) → AreOrdered ids → IsSearchInRange r (length ids) → IsBinarySearchResult (λ (y : FileId). file_cmp y file) ids r → IfOk r (IsAt ids file) × IfErr r (IsGap ids file)
searched_here ids file (Ok i) sorted within equal = (at_place ids file i sorted within (file_exact _ file (equal file)), tt)
searched_here ids file (Err i) sorted within parted =
    let p = parted (searchable ids file sorted) in (
      tt,
      at_gap ids file i sorted within
          ((λ j d lt. p.0 j d (omega arith) lt), (λ j d from lt. file_total.antisymm file (get_or ids j d) ∙ ap ordering_reverse (p.1 j d from lt))),
    )

-- by the derived order, which is the one of the definition
abbrev derived_cmp : FileId → FileId → Ordering
derived_cmp = (derived.cmp-value).it

pub searched : (ids : List FileId) (file : FileId) (r : Result ℕ ℕ) → AreOrdered ids → IsSearchInRange r (length ids) → IsBinarySearchResult (λ (y : FileId). derived_cmp y file) ids r → IfOk r (IsAt ids file) × IfErr r (IsGap ids file)
searched ids file r sorted within found =
    searched_here ids file r sorted within (subst (λ (o : FileId → FileId → Ordering). IsBinarySearchResult (λ (y : FileId). o y file) ids r) file_order_is found)

-- behind the last
pub past_last : (ids : List FileId) (file : FileId) (k : ℕ) → AreOrdered ids → k + 1 ≡ length ids → ((d : FileId) → file_cmp (get_or ids k d) file ≡ Less) → IsGap ids file (length ids)
past_last ids file k sorted last less =
    let below = λ (j : ℕ) (d : FileId) (lt : j < length ids).
    elim (cases_lt j k) as (λ w. file_cmp (get_or ids j d) file ≡ Less) [
      | inl before ↦ file_total.trans (get_or ids j d) (get_or ids k d) file (Less-from_sorted file_cmp ids j k d sorted before (omega arith)) (less d)
      | inr from ↦ subst (λ n. file_cmp (get_or ids n d) file ≡ Less) (let e : k ≡ j = omega arith in e) (less d)
    ] in
    at_gap ids file (length ids) sorted (omega arith) (below, (λ j d from lt. absurd (omega arith)))

pub past_none : (ids : List FileId) (file : FileId) → AreOrdered ids → length ids ≡ 0 → IsGap ids file (length ids)
past_none ids file sorted none = at_gap ids file (length ids) sorted (omega arith) ((λ j d lt. absurd (omega arith)), (λ j d from lt. absurd (omega arith)))

pub is_less : (o : Ordering) → is_lt o ≡ true → o ≡ Less
is_less Less h = refl
is_less Equal h = cc
is_less Greater h = cc
