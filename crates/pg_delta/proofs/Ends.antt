-- The longest end of a list that is within the limits.
use Rattle.std.proofs.Common.{◌≡◌, ℕ, ◌≤◌, Bool, true, false, cond, leb, ◌&&◌, List, [], ◌∷◌, ◌++◌, length, refl, sym, ap, ◌∙◌, arith, length-append}
use Rattle.std.specs.List.{filter, remove}
use Rattle.std.proofs.lemmas.Bool.{false_from_ne_true}
use Rattle.std.proofs.lemmas.Bool.Decides.{nat_tests}
use Rattle.std.proofs.lemmas.List.{append-nil}
use Rattle.std.proofs.lemmas.List.Elements.{filter-append}
use Rattle.std.proofs.lemmas.List.Sums.{sum_by-append}
use Rattle.pg_delta.specs.declared.delta.KeptDelta.{KeptDelta}
use Rattle.pg_delta.specs.Kept.{bytes_of, bytes_together, is_small, is_within, kept_deltas, longest_end, with_delta}

-- ---- the limits

within_by : (a b k l m n : ℕ) → a ≤ k → b ≤ l → (leb k m && leb l n) ≡ true → (leb a m && leb b n) ≡ true
within_by a b k l m n p q h = grind (arith, nat_tests)

-- what is within the limits with more behind it is so without
front_within : (xs ys : List KeptDelta) → is_within (xs ++ ys) ≡ true → is_within xs ≡ true
front_within xs ys h =
    within_by (length xs) (bytes_together xs) (length (xs ++ ys)) (bytes_together (xs ++ ys)) 8 65536
    (omega (arith, length-append xs ys)) (omega (arith, sum_by-append (λ (d : KeptDelta). bytes_of d.ranges) xs ys)) h

over_more : (xs ys : List KeptDelta) → is_within xs ≡ false → is_within (xs ++ ys) ≡ false
over_more xs ys h = false_from_ne_true (is_within (xs ++ ys)) (λ e. let x : true ≡ false = sym (front_within xs ys e) ∙ h in cc)

-- ---- the longest end

pub end_within : (ds : List KeptDelta) → is_within ds ≡ true → longest_end ds ≡ ds
end_within [] h = refl
end_within (d ∷ ds) h = ap (λ b. cond b (d ∷ ds) (longest_end ds)) h

end_over : (d : KeptDelta) (ds : List KeptDelta) → is_within (d ∷ ds) ≡ false → longest_end (d ∷ ds) ≡ longest_end ds
end_over d ds h = ap (λ b. cond b (d ∷ ds) (longest_end ds)) h

pub first_goes : (ds : List KeptDelta) → is_within ds ≡ false → longest_end (remove ds 0) ≡ longest_end ds
first_goes [] h = refl
first_goes (d ∷ ds) h = sym (end_over d ds h)

-- what was dropped before stays dropped
more_by : (b : Bool) (d e : KeptDelta) (ds : List KeptDelta) → is_within (d ∷ ds) ≡ b → longest_end (longest_end ds ++ e ∷ []) ≡ longest_end (ds ++ e ∷ []) → longest_end (cond b (d ∷ ds) (longest_end ds) ++ e ∷ []) ≡ longest_end (d ∷ ds ++ e ∷ [])
more_by true d e ds h rest = refl
more_by false d e ds h rest = rest ∙ sym (end_over d (ds ++ e ∷ []) (over_more (d ∷ ds) (e ∷ []) h))

end_more : (ds : List KeptDelta) (e : KeptDelta) → longest_end (longest_end ds ++ e ∷ []) ≡ longest_end (ds ++ e ∷ [])
end_more [] e = refl
end_more (d ∷ ds) e = more_by (is_within (d ∷ ds)) d e ds refl (end_more ds e)

-- ---- the kept ones

kept_by : (b : Bool) (d : KeptDelta) (ds : List KeptDelta) → cond b (longest_end (longest_end ds ++ d ∷ [])) (longest_end ds) ≡ longest_end (ds ++ cond b (d ∷ []) [])
kept_by true d ds = end_more ds d
kept_by false d ds = ap longest_end (sym (append-nil ds))

pub kept_next : (all : List KeptDelta) (d : KeptDelta) → with_delta (kept_deltas all) d ≡ kept_deltas (all ++ d ∷ [])
kept_next all d = kept_by (is_small d) d (filter is_small all) ∙ ap longest_end (sym (filter-append is_small all (d ∷ [])))

abbrev IsEnd : List KeptDelta → List KeptDelta → Type 0
IsEnd end all = (older : List KeptDelta) × (all ≡ older ++ end)

end_by : (b : Bool) (d : KeptDelta) (ds : List KeptDelta) → IsEnd (longest_end ds) ds → IsEnd (cond b (d ∷ ds) (longest_end ds)) (d ∷ ds)
end_by true d ds h = ([], refl)
end_by false d ds h = (d ∷ h.0, ap (λ xs. d ∷ xs) h.1)

is_end : (ds : List KeptDelta) → IsEnd (longest_end ds) ds
is_end [] = ([], refl)
is_end (d ∷ ds) = end_by (is_within (d ∷ ds)) d ds (is_end ds)

pub kept_end : (all : List KeptDelta) → (older : List KeptDelta) × (filter is_small all ≡ older ++ kept_deltas all)
kept_end all = is_end (filter is_small all)

within_end_by : (b : Bool) (d : KeptDelta) (ds : List KeptDelta) → is_within (d ∷ ds) ≡ b → is_within (longest_end ds) ≡ true → is_within (cond b (d ∷ ds) (longest_end ds)) ≡ true
within_end_by true d ds e h = e
within_end_by false d ds e h = h

within_end : (ds : List KeptDelta) → is_within (longest_end ds) ≡ true
within_end [] = refl
within_end (d ∷ ds) = within_end_by (is_within (d ∷ ds)) d ds refl (within_end ds)

pub kept_within : (all : List KeptDelta) → is_within (kept_deltas all) ≡ true
kept_within all = within_end (filter is_small all)

longest_by : (b : Bool) (d : KeptDelta) (ds rest : List KeptDelta) → length rest ≤ length ds → length rest ≤ length (longest_end ds) → length rest ≤ length (cond b (d ∷ ds) (longest_end ds))
longest_by true d ds rest p q = omega arith
longest_by false d ds rest p q = q

longest : (older rest : List KeptDelta) → is_within rest ≡ true → length rest ≤ length (longest_end (older ++ rest))
longest [] rest h = let e = ap length (end_within rest h) in omega arith
longest (d ∷ older) rest h =
    longest_by (is_within (d ∷ older ++ rest)) d (older ++ rest) rest (omega (arith, length-append older rest)) (longest older rest h)

pub kept_longest : (all older rest : List KeptDelta) → filter is_small all ≡ older ++ rest → is_within rest ≡ true → length rest ≤ length (kept_deltas all)
kept_longest all older rest e h =
    let same = ap (λ ds. length (longest_end ds)) e in
    omega (arith, longest older rest h)
