-- Rows in order: what a sort gives is the one list of these rows that is in order.
use Rattle.std.proofs.Common.{ℕ, suc, ◌≡◌, ◌<◌, ◌≤◌, ◌+◌, Bool, true, false, cond, List, [], ◌∷◌, length, get_or, refl, sym, ap, ◌∙◌, arith, Less, Equal, Greater}
use Rattle.std.specs.declared.cmp.Ordering.{Ordering}
use Rattle.std.specs.Ordering.{nat_cmp, is_lt, is_eq, ordering_reverse}
use Rattle.std.specs.Cmp.{IsTotalOrder, IsStrictWeakOrder, tied_itself}
use Rattle.std.specs.Cmp.Lexicographic.{slice_cmp}
use Rattle.std.specs.List.{AllByRecursion, sum_by}
use Rattle.std.specs.List.Sorted.{IsPermutation, IsSortedBy}
use Rattle.std.proofs.lemmas.List.Elements.{recursion_from_All}
use Rattle.std.proofs.lemmas.List.Sorted.{ranks_by, sorted_far, sum_by-IsPermutation}
use Rattle.std.proofs.lemmas.List.Sums.{sum_by-cons}
use Rattle.std.proofs.lemmas.Map.Lookups.{CmpEqualImpliesEq, exact_bytes, exact_pairs}
use Rattle.pg_base.specs.declared.id.FileId.{FileId}
use Rattle.pg_base.specs.Id.{file_cmp}
use Rattle.pg_base.proofs.Orders.{is_same_file-true}
use Rattle.pg_path.specs.declared.row.Row.{Row}
use Rattle.pg_entries.specs.Shown.{row_cmp, insert_row, rows_in_order}
use Rattle.pg_entries.proofs.Claims.{row_total}

module _ {X : Type 0} (R : X → X → Ordering) where
  -- none of these goes before x
  abbrev pub Above : X → List X → Type 0
  Above x xs = AllByRecursion (λ y. is_lt (R y x) ≡ false) xs

  -- none goes before one that stands before it
  abbrev pub Rising : List X → Type 0
  Rising [] = Unit {0}
  Rising (x ∷ xs) = Above x xs × Rising xs

  rising_from_far : (xs : List X) → ((i j : ℕ) (d : X) → i ≤ j → j < length xs → is_lt (R (get_or xs j d) (get_or xs i d)) ≡ false) → Rising xs
  rising_from_far [] far = tt
  rising_from_far (x ∷ xs) far = (
    recursion_from_All (λ y. is_lt (R y x) ≡ false) xs (λ k d lt. far 0 (suc k) d (omega arith) (omega arith)),
    rising_from_far xs (λ i j d le lt. far (suc i) (suc j) d (omega arith) (omega arith)),
  )

  weak : IsTotalOrder R → IsStrictWeakOrder (λ (a b : X). is_lt (R a b))
  weak o = ranks_by o (λ (x : X). x)

  -- what a sort ensures
  pub rising_from_sorted : IsTotalOrder R → (xs : List X) → IsSortedBy (λ a b. is_lt (R a b)) xs → Rising xs
  rising_from_sorted o xs up = rising_from_far xs (λ i j d a b. sorted_far (λ a b. is_lt (R a b)) (weak o) xs up i j d a b)

  pub Above-further : IsTotalOrder R → (x z : X) (xs : List X) → is_lt (R z x) ≡ false → Above z xs → Above x xs
  Above-further o x z [] low up = tt
  Above-further o x z (y ∷ xs) low up = ((weak o).chain y z x up.0 low, Above-further o x z xs low up.1)

  -- 1 for x, and 0 for each other
  abbrev is_x : X → X → ℕ
  is_x x z = cond (is_eq (R x z)) 1 0

  other_by : IsTotalOrder R → CmpEqualImpliesEq R → (x y z : X) (r : Ordering) → R x z ≡ r → is_lt (R x y) ≡ true → is_lt (R z y) ≡ false → ◌≡◌ {A = ℕ} (cond (is_eq r) 1 0) 0
  other_by o exact x y z Less e lt up = refl
  other_by o exact x y z Equal e lt up =
      absurd (let one : x ≡ z = exact x z e in let t : true ≡ false = sym lt ∙ ap (λ q. is_lt (R q y)) one ∙ up in cc)
  other_by o exact x y z Greater e lt up = refl

  -- what goes before y is none of what does not
  none_of : IsTotalOrder R → CmpEqualImpliesEq R → (x y : X) (zs : List X) → is_lt (R x y) ≡ true → Above y zs → sum_by (is_x x) zs ≡ 0
  none_of o exact x y [] lt up = refl
  none_of o exact x y (z ∷ zs) lt up =
      omega (arith, sum_by-cons (is_x x) z zs, other_by o exact x y z (R x z) refl lt up.0, none_of o exact x y zs lt up.1)

  abbrev SameSums : List X → List X → Type 0
  SameSums xs ys = (f : X → ℕ) → sum_by f xs ≡ sum_by f ys

  not_before : IsTotalOrder R → CmpEqualImpliesEq R → (x y : X) (xs ys : List X) → Above y ys → SameSums (x ∷ xs) (y ∷ ys) → R x y ≡ Less → ⊥
  not_before o exact x y xs ys up same less =
      let lt : is_lt (R x y) ≡ true = ap is_lt less in
      let there : ◌≡◌ {A = ℕ} (cond (is_eq (R x x)) 1 0) 1 = ap {B = ℕ} (λ r. cond (is_eq r) 1 0) (tied_itself o x) in
      let first : ◌≡◌ {A = ℕ} (cond (is_eq (R x y)) 1 0) 0 = ap {B = ℕ} (λ r. cond (is_eq r) 1 0) less in
      omega (arith, same (is_x x), sum_by-cons (is_x x) x xs, sum_by-cons (is_x x) y ys, none_of o exact x y ys lt up)

  head_by : IsTotalOrder R → CmpEqualImpliesEq R → (x y : X) (xs ys : List X) (r : Ordering) → R x y ≡ r → Above x xs → Above y ys → SameSums (x ∷ xs) (y ∷ ys) → x ≡ y
  head_by o exact x y xs ys Less e a b same = absurd (not_before o exact x y xs ys b same e)
  head_by o exact x y xs ys Equal e a b same = exact x y e
  head_by o exact x y xs ys Greater e a b same =
      absurd (not_before o exact y x ys xs a (λ f. sym (same f)) (o.antisymm y x ∙ ap ordering_reverse e))

  -- two lists in order that have the same elements are one
  pub one_rising : IsTotalOrder R → CmpEqualImpliesEq R → (xs ys : List X) → Rising xs → Rising ys → SameSums xs ys → xs ≡ ys
  one_rising o exact [] [] a b same = refl
  one_rising o exact [] (y ∷ ys) a b same = absurd (let s = same (λ _. 1) in omega (arith, sum_by-cons (λ (_ : X). 1) y ys))
  one_rising o exact (x ∷ xs) [] a b same = absurd (let s = same (λ _. 1) in omega (arith, sum_by-cons (λ (_ : X). 1) x xs))
  one_rising o exact (x ∷ xs) (y ∷ ys) a b same =
      let e : x ≡ y = head_by o exact x y xs ys (R x y) refl a.0 b.0 same in
      let rest : xs ≡ ys = one_rising o exact xs ys a.1 b.1 (λ f. omega (arith, same f, sum_by-cons f x xs, sum_by-cons f y ys, ap f e)) in
      cc

-- ---- rows

row_of_parts : (n m : List ℕ) (a b : FileId) → n ≡ m → a ≡ b → ◌≡◌ {A = Row} (record { name = n; child = a }) (record { name = m; child = b })
row_of_parts n m a b e f = cc

-- rows that compare alike are one
row_exact : CmpEqualImpliesEq row_cmp
row_exact a b h =
    let e = exact_pairs (slice_cmp nat_cmp) file_cmp exact_bytes (λ x y t. is_same_file-true x y (ap is_eq t)) (a.name, a.child) (b.name, b.child) h in
    row_of_parts a.name b.name a.child b.child (ap (λ (p : List ℕ × FileId). p.0) e) (ap (λ (p : List ℕ × FileId). p.1) e)

Above-insert_by : (x row held : Row) (rows : List Row) (t : Bool) → is_lt (row_cmp row x) ≡ false → Above row_cmp x (held ∷ rows) → Above row_cmp x (insert_row rows row) → Above row_cmp x (cond t (held ∷ insert_row rows row) (row ∷ held ∷ rows))
Above-insert_by x row held rows true low up more = (up.0, more)
Above-insert_by x row held rows false low up more = (low, up)

Above-insert : (x row : Row) (rows : List Row) → is_lt (row_cmp row x) ≡ false → Above row_cmp x rows → Above row_cmp x (insert_row rows row)
Above-insert x row [] low up = (low, tt)
Above-insert x row (held ∷ rows) low up = Above-insert_by x row held rows (is_lt (row_cmp held row)) low up (Above-insert x row rows low up.1)

rising_by : (row held : Row) (rows : List Row) (t : Bool) → is_lt (row_cmp held row) ≡ t → Rising row_cmp (held ∷ rows) → Rising row_cmp (insert_row rows row) → Rising row_cmp (cond t (held ∷ insert_row rows row) (row ∷ held ∷ rows))
rising_by row held rows true e up more = (Above-insert held row rows ((weak row_cmp row_total).one_way held row e) up.0, more)
rising_by row held rows false e up more = ((e, Above-further row_cmp row_total row held rows e up.0), up)

Rising-insert : (row : Row) (rows : List Row) → Rising row_cmp rows → Rising row_cmp (insert_row rows row)
Rising-insert row [] up = (tt, tt)
Rising-insert row (held ∷ rows) up = rising_by row held rows (is_lt (row_cmp held row)) refl up (Rising-insert row rows up.1)

Rising-in_order : (rows : List Row) → Rising row_cmp (rows_in_order rows)
Rising-in_order [] = tt
Rising-in_order (row ∷ rows) = Rising-insert row (rows_in_order rows) (Rising-in_order rows)

sums_by : (f : Row → ℕ) (row held : Row) (rows : List Row) (t : Bool) → sum_by f (insert_row rows row) ≡ f row + sum_by f rows → sum_by f (cond t (held ∷ insert_row rows row) (row ∷ held ∷ rows)) ≡ f row + sum_by f (held ∷ rows)
sums_by f row held rows true more = omega (arith, sum_by-cons f held (insert_row rows row), sum_by-cons f held rows, more)
sums_by f row held rows false more = sum_by-cons f row (held ∷ rows)

sum_by-insert : (f : Row → ℕ) (row : Row) (rows : List Row) → sum_by f (insert_row rows row) ≡ f row + sum_by f rows
sum_by-insert f row [] = sum_by-cons f row []
sum_by-insert f row (held ∷ rows) = sums_by f row held rows (is_lt (row_cmp held row)) (sum_by-insert f row rows)

sum_by-in_order : (f : Row → ℕ) (rows : List Row) → sum_by f (rows_in_order rows) ≡ sum_by f rows
sum_by-in_order f [] = refl
sum_by-in_order f (row ∷ rows) = omega (arith, sum_by-insert f row (rows_in_order rows), sum_by-cons f row rows, sum_by-in_order f rows)

-- what a sort makes of rows
pub sorted_is : (rows ys : List Row) → IsPermutation rows ys → IsSortedBy (λ a b. is_lt (row_cmp a b)) ys → ys ≡ rows_in_order rows
sorted_is rows ys same up =
    one_rising row_cmp row_total row_exact ys (rows_in_order rows) (rising_from_sorted row_cmp row_total ys up) (Rising-in_order rows)
    (λ f. sum_by-IsPermutation f rows ys same ∙ sym (sum_by-in_order f rows))
