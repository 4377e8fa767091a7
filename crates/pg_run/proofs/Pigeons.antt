-- Of more numbers than there are things in a list, two have one thing. So where no directory stands
-- in itself, from each one comes out of the directories, and none is to move.
use Rattle.std.proofs.Common.{◌≡◌, ℕ, zero, suc, ◌<◌, ◌≤◌, ◌+◌, ◌-◌, Bool, true, false, ◌||◌, not, cond, List, [], ◌∷◌, length, None, refl, sym, ap, ◌∙◌, subst, arith, inl, inr, ◌⊎◌}
use Rattle.std.specs.List.{filter}
use Rattle.std.specs.Map.{keys_of}
use Rattle.std.proofs.lemmas.Bool.{cases_lt, false≢true, not_from_false}
use Rattle.pg_base.specs.declared.id.FileId.{FileId}
use Rattle.pg_base.specs.Id.{is_same_file}
use Rattle.pg_base.proofs.Orders.{is_same_file-true}
use Rattle.pg_server.specs.pg_pieces.pg_names.Names.{NamesValue, directories, is_dir}
use Rattle.pg_server.specs.pg_pieces.pg_house.Cycles.{climb, first_moving, is_inner, is_lost, latest_member, least}
use Rattle.pg_server.specs.pg_pieces.pg_house.Facts.{NoCycle, is_among}
use Rattle.pg_server.proofs.pg_pieces.pg_house.AllClimb.{climb_add, inner_below}
use Rattle.pg_server.proofs.pg_pieces.pg_house.Counting.{among_kept}
use Rattle.pg_server.proofs.pg_pieces.pg_house.Ends.{key_of_held}
use Rattle.pg_server.proofs.pg_pieces.pg_house.NoCycles.{inner_parts}

-- ---- one thing is looked for

abbrev Found : (ℕ → FileId) → FileId → ℕ → Type 0
Found f x n = ((i : ℕ) × (i < n) × (is_same_file (f i) x ≡ true)) ⊎ ((i : ℕ) → i < n → is_same_file (f i) x ≡ false)

last_or_before : (i n : ℕ) → i < suc n → (i ≡ n) ⊎ (i < n)
last_or_before i n lt = elim (cases_lt i n) [ inl before ↦ inr before | inr after ↦ inl (omega arith) ]

none_there : (f : ℕ → FileId) (x : FileId) (n : ℕ) → is_same_file (f n) x ≡ false → ((i : ℕ) → i < n → is_same_file (f i) x ≡ false)
    → (i : ℕ) → i < suc n → is_same_file (f i) x ≡ false
none_there f x n e none i lt = elim (last_or_before i n lt) [ inl last ↦ ap (λ k. is_same_file (f k) x) last ∙ e | inr before ↦ none i before ]

found_at : (f : ℕ → FileId) (x : FileId) (n : ℕ) (t : Bool) → is_same_file (f n) x ≡ t → Found f x n → Found f x (suc n)
found_at f x n true e found = inl (n, omega arith, e)
found_at f x n false e found = elim found [
  | inl r ↦ inl (r.0, (let lt = r.1 in omega arith), r.2)
  | inr none ↦ inr (none_there f x n e none)
]

look : (f : ℕ → FileId) (x : FileId) (n : ℕ) → Found f x n
look f x zero = inr (λ i lt. absurd (omega arith))
look f x (suc n) = found_at f x n (is_same_file (f n) x) refl (look f x n)

-- ---- and taken out of the list

abbrev is_other : FileId → FileId → Bool
is_other x y = not (is_same_file y x)

no_more_at : (x d : FileId) (ds : List FileId) (t : Bool) → length (filter (is_other x) ds) ≤ length ds
    → length (cond t (d ∷ filter (is_other x) ds) (filter (is_other x) ds)) ≤ suc (length ds)
no_more_at x d ds true h = omega arith
no_more_at x d ds false h = omega arith

no_more : (x : FileId) (ds : List FileId) → length (filter (is_other x) ds) ≤ length ds
no_more x [] = omega arith
no_more x (d ∷ ds) = no_more_at x d ds (is_other x d) (no_more x ds)

fewer_at : (x d : FileId) (ds : List FileId) (t : Bool) → (t || is_among x ds) ≡ true → ((is_among x ds ≡ true) → length (filter (is_other x) ds) < length ds)
    → length (cond (not t) (d ∷ filter (is_other x) ds) (filter (is_other x) ds)) < suc (length ds)
fewer_at x d ds true h rest = let most = no_more x ds in omega arith
fewer_at x d ds false h rest = let less = rest h in omega arith

fewer : (x : FileId) (ds : List FileId) → is_among x ds ≡ true → length (filter (is_other x) ds) < length ds
fewer x [] h = absurd (false≢true h)
fewer x (d ∷ ds) h = fewer_at x d ds (is_same_file d x) h (fewer x ds)

-- ---- two have one thing

abbrev Twice : (ℕ → FileId) → ℕ → Type 0
Twice f n = (i : ℕ) × (j : ℕ) × (i < j) × (j ≤ n) × (f i ≡ f j)

some_in : (x : FileId) (ds : List FileId) → length ds ≤ 0 → is_among x ds ≡ true → ⊥
some_in x [] up h = false≢true h
some_in x (d ∷ ds) up h = omega arith

later : (f : ℕ → FileId) (n : ℕ) → Twice f n → Twice f (suc n)
later f n r = (r.0, r.1, r.2, (let le = r.3 in omega arith), r.4)

shorter : (a b n : ℕ) → a < b → b ≤ suc n → a ≤ n
shorter a b n h g = omega arith

pub twice : (f : ℕ → FileId) (n : ℕ) (ds : List FileId) → length ds ≤ n → ((i : ℕ) → i ≤ n → is_among (f i) ds ≡ true) → Twice f n
twice f zero ds up all = absurd (some_in (f 0) ds up (all 0 (omega arith)))
twice f (suc n) ds up all =
    let x = f (suc n) in
    let rest = filter (is_other x) ds in
    elim (look f x (suc n)) [
      | inl r ↦ (r.0, suc n, r.1, omega arith, is_same_file-true (f r.0) x r.2)
      | inr none ↦ later f n (twice f n rest
          (shorter (length rest) (length ds) n (fewer x ds (all (suc n) (omega arith))) up)
          (λ i le. among_kept (is_other x) ds (f i) (all i (omega arith)) (not_from_false (is_same_file (f i) x) (none i (omega arith)))))
    ]

-- ---- directories

module _ (s : NamesValue) (none : NoCycle s) (n : ℕ) (up : length (directories s) ≤ n) where
  inner_in : (d : FileId) → is_inner s d ≡ true → is_among d (directories s) ≡ true
  inner_in d h =
      let parts = inner_parts s d h in
      among_kept is_dir (keys_of s.held) d (key_of_held s d parts.held.0 parts.held.1) parts.dir

  inner_at : (d : FileId) (i : ℕ) → i ≤ n → is_inner s (climb s (n + n) d) ≡ true → is_inner s (climb s i d) ≡ true
  inner_at d i le h =
      let parts : n + n ≡ i + (n + n - i) = omega arith in
      inner_below s i (n + n - i) d (subst (λ k. is_inner s (climb s k d) ≡ true) parts h)

  goes_round : (d : FileId) (i j : ℕ) → i < j → climb s i d ≡ climb s j d → climb s (suc (j - (i + 1))) (climb s i d) ≡ climb s i d
  goes_round d i j lt same =
      let steps : i + suc (j - (i + 1)) ≡ j = omega arith in
      sym (climb_add s i (suc (j - (i + 1))) d) ∙ ap (λ k. climb s k d) steps ∙ sym same

  not_lost_at : (d : FileId) (t : Bool) → is_lost s n d ≡ t → t ≡ false
  not_lost_at d false h = refl
  not_lost_at d true h =
      let r = twice (λ i. climb s i d) n (directories s) up (λ i le. inner_in (climb s i d) (inner_at d i le h)) in
      absurd (none (climb s r.0 d) (r.1 - (r.0 + 1))
      (inner_at d r.0 (let lt = r.2 in let le = r.3 in omega arith) h)
      (goes_round d r.0 r.1 r.2 r.4))

  not_lost : (d : FileId) → is_lost s n d ≡ false
  not_lost d = not_lost_at d (is_lost s n d) refl

  pub none_moves : (ds : List FileId) → first_moving s n None ds ≡ None
  none_moves [] = refl
  none_moves (d ∷ ds) = ap (λ t. first_moving s n (cond t (least None (latest_member s n d)) None) ds) (not_lost d) ∙ none_moves ds
