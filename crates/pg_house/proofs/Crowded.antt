-- Of more directories than there are two are one: who goes up for so long goes round.
use Rattle.std.proofs.Common.{◌≡◌, ℕ, zero, suc, ◌<◌, ◌≤◌, ◌+◌, ◌-◌, Bool, true, false, not, cond, List, [], ◌∷◌, length, Option, None, refl, sym, ap, ◌∙◌, arith, inl, inr, ◌⊎◌}
use Rattle.std.specs.List.{filter}
use Rattle.std.proofs.lemmas.Bool.{false≢true, and_from, cases_lt}
use Rattle.pg_base.specs.declared.id.FileId.{FileId}
use Rattle.pg_base.specs.Id.{is_same_file}
use Rattle.pg_base.proofs.Orders.{is_same_file-true, is_same_file-refl}
use Rattle.pg_names.specs.Names.{NamesValue, directories, is_dir}
use Rattle.std.specs.Map.{keys_of}
use Rattle.pg_house.specs.Cycles.{climb, first_moving, is_inner, is_lost, latest_member, least}
use Rattle.pg_house.specs.Facts.{is_among}
use Rattle.pg_house.proofs.Truths.{bool_cases, chosen_false, or_cases}
use Rattle.pg_house.proofs.Counting.{among_kept}
use Rattle.pg_house.proofs.Among.{among_where}
use Rattle.pg_house.proofs.AllClimb.{climb_add, comes_back, inner_below, out_stays}
use Rattle.pg_house.proofs.Ends.{key_of_held}
use Rattle.pg_house.proofs.NoCycles.{inner_parts}

-- ---- of more than there are two are one

abbrev IsMet : FileId → (ℕ → FileId) → ℕ → Type 0
IsMet a g n = ((i : ℕ) × (i < n) × (is_same_file (g i) a ≡ true)) ⊎ ((i : ℕ) → i < n → is_same_file (g i) a ≡ false)

met_by : (a : FileId) (g : ℕ → FileId) (n : ℕ) → IsMet a g n → (is_same_file (g n) a ≡ true) ⊎ (is_same_file (g n) a ≡ false) → IsMet a g (suc n)
met_by a g n (inl f) here = inl (f.0, (let h = f.1 in omega arith), f.2)
met_by a g n (inr none) (inl same) = inl (n, omega arith, same)
met_by a g n (inr none) (inr other) =
    inr (λ i lt.
    elim (cases_lt i n) [
      | inl below ↦ none i below
      | inr from ↦ let e : i ≡ n = omega arith in ap (λ k. is_same_file (g k) a) e ∙ other
    ])

met : (a : FileId) (g : ℕ → FileId) (n : ℕ) → IsMet a g n
met a g zero = inr (λ i lt. absurd (omega arith))
met a g (suc n) = met_by a g n (met a g n) (bool_cases (is_same_file (g n) a))

length_by : (d : FileId) (xs : List FileId) (n : ℕ) (t : Bool) → length xs ≤ n → length (cond t (d ∷ xs) xs) ≤ suc n
length_by d xs n true h = omega arith
length_by d xs n false h = omega arith

length_where : (test : FileId → Bool) (ds : List FileId) → length (filter test ds) ≤ length ds
length_where test [] = omega arith
length_where test (d ∷ ds) = length_by d (filter test ds) (length ds) (test d) (length_where test ds)

less_by : (test : FileId → Bool) (a d : FileId) (ds : List FileId) (t : Bool) → test d ≡ t → test a ≡ false → (is_same_file d a ≡ true) ⊎ (is_among a ds ≡ true) → length (filter test ds) ≤ length ds
    → (is_among a ds ≡ true → length (filter test ds) < length ds) → length (cond t (d ∷ filter test ds) (filter test ds)) < suc (length ds)
less_by test a d ds false h out where_is most less = omega arith
less_by test a d ds true h out (inl same) most less = absurd (false≢true (sym out ∙ ap test (sym (is_same_file-true d a same)) ∙ h))
less_by test a d ds true h out (inr later) most less = let x = less later in omega arith

-- fewer pass where one does not
less_where : (test : FileId → Bool) (a : FileId) (ds : List FileId) → test a ≡ false → is_among a ds ≡ true → length (filter test ds) < length ds
less_where test a [] out among = absurd (false≢true among)
less_where test a (d ∷ ds) out among =
    less_by test a d ds (test d) refl out (or_cases (is_same_file d a) (is_among a ds) among) (length_where test ds) (λ later. less_where test a ds out later)

abbrev IsTwice : (ℕ → FileId) → ℕ → Type 0
IsTwice g n = (i : ℕ) × (j : ℕ) × (i < j) × (j ≤ n) × (g i ≡ g j)

abbrev other_than : FileId → FileId → Bool
other_than a q = not (is_same_file q a)

twice : (n : ℕ) (g : ℕ → FileId) (ds : List FileId) → length ds ≤ n → ((i : ℕ) → i ≤ n → is_among (g i) ds ≡ true) → IsTwice g n
twice zero g [] few all = absurd (false≢true (all 0 (omega arith)))
twice zero g (d ∷ ds) few all = absurd (omega arith)
twice (suc n) g ds few all =
    let a = g (suc n) in
    elim (met a g (suc n)) [
      | inl f ↦ (f.0, suc n, f.1, omega arith, is_same_file-true (g f.0) a f.2)
      | inr none ↦
          let less = less_where (other_than a) a ds (ap not (is_same_file-refl a)) (all (suc n) (omega arith)) in
          let r = twice n g (filter (other_than a) ds) (omega arith)
          (λ i le. among_where (other_than a) (g i) ds ∙ and_from (other_than a (g i)) (is_among (g i) ds) (ap not (none i (omega arith))) (all i (omega arith))) in
          (r.0, r.1, r.2, (let h = r.3 in omega arith), r.4)
    ]

-- ---- who comes out does so within twice as many steps as there are directories

module _ (s : NamesValue) (d : FileId) where
  -- who comes to the same directory twice never comes out
  round : (i j : ℕ) → i < j → climb s i d ≡ climb s j d → is_inner s (climb s j d) ≡ true → (m : ℕ) → is_inner s (climb s m d) ≡ true
  round i j lt same inner m =
      let e = climb s i d in
      let k = j - (i + 1) in
      let far : i + suc k ≡ j = omega arith in
      let back : climb s (suc k) e ≡ e = sym (climb_add s i (suc k) d) ∙ ap (λ n. climb s n d) far ∙ sym same in
      let r = comes_back s k e back m in
      let high : is_inner s (climb s (m + r.0) e) ≡ true = ap (is_inner s) (r.1 ∙ same) ∙ inner in
      let there : is_inner s (climb s m e) ≡ true = inner_below s m r.0 e high in
      let turned : m + i ≡ i + m = omega arith in
      inner_below s m i d (ap (is_inner s) (ap (λ n. climb s n d) turned ∙ climb_add s i m d) ∙ there)

  module _ (ds : List FileId) (all : (q : FileId) → is_inner s q ≡ true → is_among q ds ≡ true) (m : ℕ) (out : is_inner s (climb s m d) ≡ false) where
    abbrev N : ℕ
    N = length ds

    below : is_lost s N d ≡ true → (i : ℕ) → i ≤ N → is_inner s (climb s i d) ≡ true
    below lost i le = let e : i + ((N + N) - i) ≡ N + N = omega arith in inner_below s i ((N + N) - i) d (ap (λ n. is_inner s (climb s n d)) e ∙ lost)

    not_lost_by : (t : Bool) → is_lost s N d ≡ t → t ≡ false
    not_lost_by false h = refl
    not_lost_by true h =
        let t = twice N (λ i. climb s i d) ds (omega arith) (λ i le. all (climb s i d) (below h i le)) in
        absurd (false≢true (sym out ∙ round t.0 t.1 t.2 t.4 (below h t.1 t.3) m))

    pub not_lost : is_lost s N d ≡ false
    not_lost = not_lost_by (is_lost s N d) refl

-- a live directory is among those that are held
pub inner_among : (s : NamesValue) (q : FileId) → is_inner s q ≡ true → is_among q (directories s) ≡ true
inner_among s q h =
    let live = inner_parts s q h in
    among_kept is_dir (keys_of s.held) q (key_of_held s q live.held.0 live.held.1) live.dir

-- ---- where from each of these one comes out of the live directories, none moves

module _ (s : NamesValue) (n : ℕ) where
  pub still : (ds : List FileId) (first : Option FileId) → ((q : FileId) → is_lost s n q ≡ false) → first_moving s n first ds ≡ first
  still [] first none = refl
  still (d ∷ ds) first none =
      ap (λ o. first_moving s n o ds) (chosen_false (is_lost s n d) (least first (latest_member s n d)) first (none d)) ∙ still ds first none

-- where from each live directory one comes to one from which one comes out, none moves
module _ (s : NamesValue) where
  abbrev Count : ℕ
  Count = length (directories s)

  abbrev pub ComesOut : FileId → Type 0
  ComesOut d = (k : ℕ) × (is_lost s Count (climb s k d) ≡ false)

  lost_by : (d : FileId) (t : Bool) → is_inner s d ≡ t → ((t ≡ true) → ComesOut d) → is_lost s Count d ≡ false
  lost_by d false h up = out_stays s (Count + Count) d h
  lost_by d true h up =
      let u = up refl in
      not_lost s d (directories s) (inner_among s) (u.0 + (Count + Count)) (ap (is_inner s) (climb_add s u.0 (Count + Count) d) ∙ u.1)

  pub none_moves : ((d : FileId) → is_inner s d ≡ true → ComesOut d) → first_moving s Count None (directories s) ≡ None
  none_moves up = still s Count (directories s) None (λ q. lost_by q (is_inner s q) refl (λ h. up q h))
