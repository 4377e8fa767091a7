-- Members of lists that are put together.
use Rattle.std.proofs.Common.{zero, suc, List, [], ◌∷◌, ◌++◌, ◌⊎◌, inl, inr, refl, sym, subst, arith}
use Rattle.std.specs.Prelude.{Contains}
use Rattle.std.specs.List.{flat_map}
use Rattle.std.proofs.lemmas.List.Elements.{All-contains_itself}
use Rattle.pg_content.specs.Content.{Among}
use Rattle.pg_content.proofs.Members.{all_among}

module _ {A : Type 0} where
  pub among_front : (x : A) (xs ys : List A) → Among x xs → Among x (xs ++ ys)
  among_front x [] ys k = absurd k
  among_front x (y ∷ xs) ys k = elim k [ inl same ↦ inl same | inr later ↦ inr (among_front x xs ys later) ]

  pub among_back : (x : A) (xs ys : List A) → Among x ys → Among x (xs ++ ys)
  among_back x [] ys k = k
  among_back x (y ∷ xs) ys k = inr (among_back x xs ys k)

  pub among_parts : (x : A) (xs ys : List A) → Among x (xs ++ ys) → Among x xs ⊎ Among x ys
  among_parts x [] ys k = inr k
  among_parts x (y ∷ xs) ys k = elim k [
    | inl same ↦ inl (inl same)
    | inr later ↦ elim (among_parts x xs ys later) [ inl front ↦ inl (inr front) | inr back ↦ inr back ]
  ]

  -- what an index finds is a member, and each member is found at an index
  pub contained_among : (xs : List A) (x : A) → Contains xs x → Among x xs
  contained_among [] x k = absurd (omega arith)
  contained_among (y ∷ xs) x (zero, lt, e) = inl (sym e)
  contained_among (y ∷ xs) x (suc n, lt, e) = inr (contained_among xs x (n, omega arith, e))

  pub among_contained : (xs : List A) (x : A) → Among x xs → Contains xs x
  among_contained xs x k = all_among (Contains xs) xs x (All-contains_itself xs) k

module _ {A B : Type 0} (f : A → List B) where
  pub among_pieces : (y : B) (xs : List A) → Among y (flat_map f xs) → (x : A) × Among x xs × Among y (f x)
  among_pieces y [] k = absurd k
  among_pieces y (x ∷ xs) k = elim (among_parts y (f x) (flat_map f xs) k) [
    | inl here ↦ (x, inl refl, here)
    | inr later ↦ (let r = among_pieces y xs later in (r.0, inr r.1, r.2))
  ]

  pub pieces_among : (y : B) (x : A) (xs : List A) → Among x xs → Among y (f x) → Among y (flat_map f xs)
  pieces_among y x [] k h = absurd k
  pieces_among y x (z ∷ xs) k h = elim k [
    | inl same ↦ among_front y (f z) (flat_map f xs) (subst (λ a. Among y (f a)) same h)
    | inr later ↦ among_back y (f z) (flat_map f xs) (pieces_among y x xs later h)
  ]
