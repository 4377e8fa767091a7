-- Lists of ids in order: of two that have as many, where one has all of the other, both are one.
use Rattle.std.proofs.Common.{◌≡◌, ◌⊎◌, ◌≤◌, ◌||◌, arith, Bool, true, false, cond, Less, Option, None, Some, List, [], ◌∷◌, length, inl, inr, refl, sym, ap, subst, ◌∙◌}
use Rattle.std.specs.Ordering.{is_eq}
use Rattle.std.specs.List.{AllByRecursion, list_any}
use Rattle.std.specs.List.Sorted.{IsStrictlySortedBy}
use Rattle.std.specs.Map.{keys_of, lookup}
use Rattle.std.specs.BTreeMap.{is_at}
use Rattle.pg_base.specs.declared.id.FileId.{FileId}
use Rattle.pg_base.specs.Id.{file_cmp}
use Rattle.pg_base.proofs.Orders.{file_exact, file_total, is_eq-true, is_same_file-refl}

abbrev pub AreIds : List FileId → Type 0
AreIds ks = IsStrictlySortedBy file_cmp ks

-- the id is among these
abbrev pub has : List FileId → FileId → Bool
has ks f = list_any (λ k. is_at (file_cmp f) k) ks

abbrev pub HasAll : List FileId → List FileId → Type 0
HasAll rs ks = AllByRecursion (λ k. has rs k ≡ true) ks

abbrev Above : FileId → List FileId → Type 0
Above r ks = AllByRecursion (λ k. file_cmp r k ≡ Less) ks

found_by : {X : Type 0} (b : Bool) (y : X) (o : Option X) (x : X) (c : Bool) → cond b (Some y) o ≡ Some x → (o ≡ Some x → c ≡ true) → (b || c) ≡ true
found_by true y o x c there rest = refl
found_by false y o x c there rest = rest there

-- what is found in a map is among its keys
pub found_has : {X : Type 0} (es : List (FileId × X)) (f : FileId) (x : X) → lookup (is_at (file_cmp f)) es ≡ Some x → has (keys_of es) f ≡ true
found_has [] f x there = absurd (let k : None ≡ Some x = there in cc)
found_has (e ∷ es) f x there = found_by (is_at (file_cmp f) e.0) e.1 (lookup (is_at (file_cmp f)) es) x (has (keys_of es) f) there (found_has es f x)

sorted_first : (k : FileId) (ks : List FileId) → AreIds (k ∷ ks) → Above k ks × AreIds ks
unfolding IsStrictlySortedBy
sorted_first k ks sorted = sorted

-- ---- one id among others

or_cases : (a b : Bool) → (a || b) ≡ true → (a ≡ true) ⊎ (b ≡ true)
or_cases true b h = inl refl
or_cases false b h = inr h

same_id : (f k : FileId) → is_at (file_cmp f) k ≡ true → f ≡ k
same_id f k h = file_exact f k (is_eq-true (file_cmp f k) h)

-- what is among ids that are above another is above it
has_above : (r f : FileId) (ks : List FileId) → Above r ks → has ks f ≡ true → file_cmp r f ≡ Less
has_above r f [] above there = absurd (let k : false ≡ true = there in cc)
has_above r f (k ∷ ks) above there = elim (or_cases (is_at (file_cmp f) k) (has ks f) there) [
  | inl here ↦ ap (file_cmp r) (same_id f k here) ∙ above.0
  | inr later ↦ has_above r f ks above.1 later
]

not_self : (r k : FileId) → file_cmp r k ≡ Less → is_at (file_cmp k) r ≡ true → ⊥
not_self r k less same =
    let e : k ≡ r = same_id k r same in
    let self : is_eq (file_cmp r r) ≡ true = is_same_file-refl r in
    let c : true ≡ false = sym self ∙ ap is_eq (ap (file_cmp r) (sym e) ∙ less) in cc

-- of ids above the first, those that are among the list are among the rest
among_rest : (r : FileId) (rs ks : List FileId) → Above r ks → HasAll (r ∷ rs) ks → HasAll rs ks
among_rest r rs [] above all = tt
among_rest r rs (k ∷ ks) above all = (
  elim (or_cases (is_at (file_cmp k) r) (has rs k) all.0) [
    | inl here ↦ absurd (not_self r k above.0 here)
    | inr later ↦ later
  ],
  among_rest r rs ks above.1 all.1,
)

above_all : (r k : FileId) (ks : List FileId) → file_cmp r k ≡ Less → Above k ks → Above r ks
above_all r k [] less above = tt
above_all r k (l ∷ ks) less above = (file_total.trans r k l less above.0, above_all r k ks less above.1)

-- ---- all of one list among the other

-- the first id of the one is that of the other, or all of it is among the rest
first_cases : (r k : FileId) (rs ks : List FileId) → AreIds (r ∷ rs) → AreIds (k ∷ ks) → HasAll (r ∷ rs) (k ∷ ks)
    → ((k ≡ r) × HasAll rs ks) ⊎ HasAll rs (k ∷ ks)
first_cases r k rs ks sorted_r sorted_k all = elim (or_cases (is_at (file_cmp k) r) (has rs k) all.0) [
  | inl here ↦ inl (same_id k r here, among_rest r rs ks (subst (λ (f : FileId). Above f ks) (same_id k r here) (sorted_first k ks sorted_k).0) all.1)
  | inr later ↦ (let less = has_above r k rs (sorted_first r rs sorted_r).0 later in
      inr (later, among_rest r rs ks (above_all r k ks less (sorted_first k ks sorted_k).0) all.1))
]

fewer : (rs ks : List FileId) → AreIds rs → AreIds ks → HasAll rs ks → length ks ≤ length rs
fewer rs [] sorted_r sorted_k all = omega arith
fewer [] (k ∷ ks) sorted_r sorted_k all = absurd (let c : false ≡ true = all.0 in cc)
fewer (r ∷ rs) (k ∷ ks) sorted_r sorted_k all = elim (first_cases r k rs ks sorted_r sorted_k all) [
  | inl here ↦ (let le = fewer rs ks (sorted_first r rs sorted_r).1 (sorted_first k ks sorted_k).1 here.1 in omega (arith, le))
  | inr later ↦ (let le = fewer rs (k ∷ ks) (sorted_first r rs sorted_r).1 sorted_k later in omega (arith, le))
]

pub same_ids : (rs ks : List FileId) → AreIds rs → AreIds ks → HasAll rs ks → length rs ≤ length ks → rs ≡ ks
same_ids [] [] sorted_r sorted_k all many = refl
same_ids (r ∷ rs) [] sorted_r sorted_k all many = absurd (omega (arith, many))
same_ids [] (k ∷ ks) sorted_r sorted_k all many = absurd (let c : false ≡ true = all.0 in cc)
same_ids (r ∷ rs) (k ∷ ks) sorted_r sorted_k all many = elim (first_cases r k rs ks sorted_r sorted_k all) [
  | inl here ↦ (let rest = same_ids rs ks (sorted_first r rs sorted_r).1 (sorted_first k ks sorted_k).1 here.1 (omega (arith, many)) in
      ap (λ (f : FileId). f ∷ rs) (sym here.0) ∙ ap (λ (fs : List FileId). k ∷ fs) rest)
  | inr later ↦ absurd (let le = fewer rs (k ∷ ks) (sorted_first r rs sorted_r).1 sorted_k later in omega (arith, le, many))
]
