-- Dues in order, searched by halves: for one due, and for those of a file.
use Rattle.std.proofs.Common.{ℕ, ◌≡◌, ◌<◌, ◌≤◌, ◌+◌, ◌++◌, Bool, true, false, ◌||◌, not, List, [], length, get_or, take, drop, refl, sym, ap, subst, ◌∙◌, arith, inl, inr, filter, Less, Equal, Greater, Result, Ok, Err, IfOk, IfErr}
use Rattle.std.specs.declared.cmp.Ordering.{Ordering}
use Rattle.std.specs.Ordering.{is_eq, is_le, is_lt, ordering_reverse, ordering_then}
use Rattle.std.specs.List.Sorted.{IsStrictlySortedBy, IsBinarySearchResult, IsPartitionPoint, IsPartitionedBy, IsSearchInRange}
use Rattle.std.proofs.lemmas.Bool.{cases_lt}
use Rattle.std.proofs.lemmas.List.Folds.{list_any_at, list_any_none}
use Rattle.std.proofs.lemmas.List.Kept.{IsStrictlySortedBy-filter}
use Rattle.std.proofs.lemmas.Map.Keys.{Less-from_sorted}
use Rattle.pg_base.specs.declared.id.FileId.{FileId}
use Rattle.pg_base.specs.Id.{file_cmp, is_same_file}
use Rattle.pg_base.proofs.Orders.{file_total}
use Rattle.pg_unacked.specs.declared.due.Due.{Due}
use Rattle.pg_unacked.specs.Due.{due_cmp, is_due, is_same_due}
use Rattle.pg_unacked.specs.Place.{IsAt, IsGap}
use Rattle.pg_unacked.specs.contracts.due.DueOrd.TheImpl as derived
use Rattle.pg_edges.specs.Key.{key_cmp}
use Rattle.pg_unacked.proofs.Orders.{due_order_is, due_total, is_same_due-true}
use Rattle.pg_unacked.proofs.Cuts.{any_insert, kept_all, kept_parts, others_at, searchable, sorted_insert}

abbrev pub AreOrdered : List Due → Type 0
AreOrdered dues = IsStrictlySortedBy due_cmp dues

pub ordered-nil : (dues : List Due) → dues ≡ [] → AreOrdered dues
unfolding IsStrictlySortedBy
ordered-nil dues e = subst AreOrdered (sym e) tt

-- what a filter leaves stays in order
pub ordered_filter : (p : Due → Bool) (dues kept : List Due) → AreOrdered dues → kept ≡ filter p dues → AreOrdered kept
ordered_filter p dues kept sorted e = subst AreOrdered (sym e) (IsStrictlySortedBy-filter due_cmp p dues sorted)

-- ---- one due

same_sym : (a b : Due) → is_same_due a b ≡ is_same_due b a
same_sym a b = ap is_eq (due_total.antisymm a b) ∙ eq_reverse (due_cmp b a) where
  eq_reverse : (o : Ordering) → is_eq (ordering_reverse o) ≡ is_eq o
  eq_reverse Less = refl
  eq_reverse Equal = refl
  eq_reverse Greater = refl

at_by : (due d : Due) (dues : List Due) (t : Bool) → is_same_due due d ≡ t → is_due due dues ≡ true → is_due d dues ≡ (t || is_due d dues)
at_by due d dues true same there = ap (λ q. is_due q dues) (sym (is_same_due-true due d same)) ∙ there
at_by due d dues false same there = refl

-- a due that is there comes again
pub there_again : (dues : List Due) (due d : Due) → is_due due dues ≡ true → is_due d dues ≡ (is_same_due due d || is_due d dues)
there_again dues due d there = at_by due d dues (is_same_due due d) refl there

found_at : (dues : List Due) (due : Due) (i : ℕ) → AreOrdered dues → i < length dues → ((d : Due) → due_cmp (get_or dues i d) due ≡ Equal) → IsAt dues due i
found_at dues due i sorted lt equal = record {
  below = lt;
  there = list_any_at (is_same_due due) dues i due lt (ap is_eq (due_total.antisymm due (get_or dues i due) ∙ ap ordering_reverse (equal due)));
  take_out = others_at due_cmp due_total due dues i sorted lt equal;
}

gap_at : (dues : List Due) (due : Due) (i : ℕ) → AreOrdered dues → i ≤ length dues → IsPartitionPoint (λ d. due_cmp d due ≡ Less) (λ d. due_cmp d due ≡ Greater) dues i → IsGap dues due i
gap_at dues due i sorted le parted =
    let after : (j : ℕ) (d : Due) → i ≤ j → j < length dues → due_cmp due (get_or dues j d) ≡ Less = λ j d from lt. due_total.antisymm due (get_or dues j d) ∙ ap ordering_reverse (parted.1 j d from lt) in
    let before : (j : ℕ) (d : Due) → j < i → due_cmp due (get_or dues j d) ≡ Greater = λ j d lt. due_total.antisymm due (get_or dues j d) ∙ ap ordering_reverse (parted.0 j d (omega arith) lt) in
    let none : (j : ℕ) (d : Due) → j < length dues → is_same_due due (get_or dues j d) ≡ false = λ j d lt.
    elim (cases_lt j i) [
      | inl below ↦ ap is_eq (before j d below)
      | inr from ↦ ap is_eq (after j d from lt)
    ] in
    record {
      upto = le;
      none = list_any_none (is_same_due due) dues none;
      take_out = kept_all (λ d. not (is_same_due due d)) dues (λ j d lt. ap not (none j d lt));
      more = λ d. any_insert (is_same_due d) due dues i ∙ ap (λ b. b || is_due d dues) (same_sym d due);
      sorted = sorted_insert due_cmp due dues i sorted le (λ j d lt. parted.0 j d (omega arith) lt) after;
    }

searched_here : (dues : List Due) (due : Due) (r : Result ℕ ℕ) → AreOrdered dues → IsSearchInRange r (length dues) → IsBinarySearchResult (λ d. due_cmp d due) dues r → IfOk r (IsAt dues due) × IfErr r (IsGap dues due)
searched_here dues due (Ok i) sorted within equal = (found_at dues due i sorted within equal, tt)
searched_here dues due (Err i) sorted within parted = (tt, gap_at dues due i sorted within (parted (searchable due_cmp due_total dues due sorted)))

-- by the derived order, which is the one of the definition
abbrev derived_cmp : Due → Due → Ordering
derived_cmp = (derived.cmp-value).it

pub searched : (dues : List Due) (due : Due) (r : Result ℕ ℕ) → AreOrdered dues → IsSearchInRange r (length dues) → IsBinarySearchResult (λ d. derived_cmp d due) dues r → IfOk r (IsAt dues due) × IfErr r (IsGap dues due)
searched dues due r sorted within found =
    searched_here dues due r sorted within (subst (λ (o : Due → Due → Ordering). IsBinarySearchResult (λ d. o d due) dues r) due_order_is found)

pub lt_is_less : (o : Ordering) → is_lt o ≡ true → o ≡ Less
lt_is_less Less h = refl
lt_is_less Equal h = cc
lt_is_less Greater h = cc

-- behind the last
pub past_last : (dues : List Due) (due : Due) (k : ℕ) → AreOrdered dues → k + 1 ≡ length dues → ((d : Due) → due_cmp (get_or dues k d) due ≡ Less) → IsGap dues due (length dues)
past_last dues due k sorted last less =
    let below = λ (j : ℕ) (d : Due) (lt : j < length dues).
    elim (cases_lt j k) as (λ w. due_cmp (get_or dues j d) due ≡ Less) [
      | inl before ↦ due_total.trans (get_or dues j d) (get_or dues k d) due (Less-from_sorted due_cmp dues j k d sorted before (omega arith)) (less d)
      | inr from ↦ subst (λ n. due_cmp (get_or dues n d) due ≡ Less) (let e : k ≡ j = omega arith in e) (less d)
    ] in
    gap_at dues due (length dues) sorted (omega arith) ((λ j d from lt. below j d lt), (λ j d from lt. absurd (omega arith)))

pub past_none : (dues : List Due) (due : Due) → AreOrdered dues → length dues ≡ 0 → IsGap dues due (length dues)
past_none dues due sorted none = gap_at dues due (length dues) sorted (omega arith) ((λ j d from lt. absurd (omega arith)), (λ j d from lt. absurd (omega arith)))

-- ---- the dues of a file

not_above : (o r : Ordering) → ordering_then o r ≡ Less → is_le o ≡ true
not_above Less r h = refl
not_above Equal r h = refl
not_above Greater r h = absurd (let z : Greater ≡ Less = h in cc)

-- an earlier due is of no greater file
files_rise : (dues : List Due) → AreOrdered dues → (i j : ℕ) (d : Due) → i < j → j < length dues → is_le (file_cmp (get_or dues i d).file (get_or dues j d).file) ≡ true
files_rise dues sorted i j d up lt = not_above _ (key_cmp (get_or dues i d).key (get_or dues j d).key) (Less-from_sorted due_cmp dues i j d sorted up lt)

below_by : (a b c : FileId) (r : Ordering) → file_cmp a b ≡ r → is_le r ≡ true → is_lt (file_cmp b c) ≡ true → is_lt (file_cmp a c) ≡ true
below_by a b c Less e le h = ap is_lt (file_total.trans a b c e (lt_is_less (file_cmp b c) h))
below_by a b c Equal e le h = ap is_lt (file_total.congr a b c e) ∙ h
below_by a b c Greater e le h = absurd (let z : false ≡ true = le in cc)

upto_by : (a b c : FileId) (r s : Ordering) → file_cmp a b ≡ r → is_le r ≡ true → file_cmp b c ≡ s → is_le s ≡ true → is_le (file_cmp a c) ≡ true
upto_by a b c Less Less e le f h = ap is_le (file_total.trans a b c e f)
upto_by a b c Less Equal e le f h =
    let back : file_cmp c b ≡ Equal = file_total.antisymm c b ∙ ap ordering_reverse f in
    ap is_le (file_total.antisymm a c ∙ ap ordering_reverse (file_total.congr c b a back ∙ file_total.antisymm b a ∙ ap ordering_reverse e))
upto_by a b c Less Greater e le f h = absurd (let z : false ≡ true = h in cc)
upto_by a b c Equal s e le f h = ap is_le (file_total.congr a b c e ∙ f) ∙ h
upto_by a b c Greater s e le f h = absurd (let z : false ≡ true = le in cc)

either : (i j : ℕ) (P : ℕ → Type 0) → i ≤ j → (i < j → P i) → P j → P i
either i j P le less same =
    elim (cases_lt i j) [
      | inl up ↦ less up
      | inr from ↦ subst P (let e : j ≡ i = omega arith in e) same
    ]

pub below_parted : (dues : List Due) (file : FileId) → AreOrdered dues → IsPartitionedBy (λ d. is_lt (file_cmp d.file file)) dues
below_parted dues file sorted i j d le lt h =
    either i j (λ k. is_lt (file_cmp (get_or dues k d).file file) ≡ true) le (λ up. below_by (get_or dues i d).file (get_or dues j d).file file _ refl (files_rise dues sorted i j d up lt) h) h

pub upto_parted : (dues : List Due) (file : FileId) → AreOrdered dues → IsPartitionedBy (λ d. is_le (file_cmp d.file file)) dues
upto_parted dues file sorted i j d le lt h =
    either i j (λ k. is_le (file_cmp (get_or dues k d).file file) ≡ true) le (λ up. upto_by (get_or dues i d).file (get_or dues j d).file file _ _ refl (files_rise dues sorted i j d up lt) refl h) h

kept_below : (o : Ordering) → is_lt o ≡ true → not (is_eq (ordering_reverse o)) ≡ true
kept_below Less h = refl
kept_below Equal h = cc
kept_below Greater h = refl

gone_between : (o : Ordering) → is_lt o ≡ false → is_le o ≡ true → not (is_eq (ordering_reverse o)) ≡ false
gone_between Less h g = absurd (let z : true ≡ false = h in cc)
gone_between Equal h g = refl
gone_between Greater h g = absurd (let z : false ≡ true = g in cc)

kept_above : (o : Ordering) → is_le o ≡ false → not (is_eq (ordering_reverse o)) ≡ true
kept_above Less h = refl
kept_above Equal h = cc
kept_above Greater h = refl

abbrev pub IsStart : List Due → FileId → ℕ → Type 0
IsStart dues file i = IsPartitionPoint (λ d. is_lt (file_cmp d.file file) ≡ true) (λ d. is_lt (file_cmp d.file file) ≡ false) dues i

abbrev pub IsEnd : List Due → FileId → ℕ → Type 0
IsEnd dues file i = IsPartitionPoint (λ d. is_le (file_cmp d.file file) ≡ true) (λ d. is_le (file_cmp d.file file) ≡ false) dues i

abbrev pub without : FileId → List Due → List Due
without file dues = filter (λ d. not (is_same_file file d.file)) dues

module _ (dues : List Due) (file : FileId) (s e : ℕ) (start : IsStart dues file s) (end : IsEnd dues file e) where
  turned : (j : ℕ) (d : Due) → is_same_file file (get_or dues j d).file ≡ is_eq (ordering_reverse (file_cmp (get_or dues j d).file file))
  turned j d = ap is_eq (file_total.antisymm file (get_or dues j d).file)

  before : (j : ℕ) (d : Due) → j < s → not (is_same_file file (get_or dues j d).file) ≡ true
  before j d lt = ap not (turned j d) ∙ kept_below _ (start.0 j d (omega arith) lt)

  after : (j : ℕ) (d : Due) → e ≤ j → j < length dues → not (is_same_file file (get_or dues j d).file) ≡ true
  after j d from lt = ap not (turned j d) ∙ kept_above _ (end.1 j d from lt)

  pub cut_out : s < e → e ≤ length dues → take s dues ++ drop e dues ≡ without file dues
  cut_out lt le =
      kept_parts (λ d. not (is_same_file file d.file)) dues s e (omega arith) le before
      (λ j d from below. ap not (turned j d) ∙ gone_between _ (start.1 j d from (omega arith)) (end.0 j d (omega arith) below)) after

  pub none_out : e ≤ s → dues ≡ without file dues
  none_out le =
      kept_all (λ d. not (is_same_file file d.file)) dues (λ j d lt.
      elim (cases_lt j s) [
        | inl below ↦ before j d below
        | inr from ↦ after j d (omega arith) lt
      ])
