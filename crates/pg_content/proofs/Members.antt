-- Members of lists, and what a look at each of them finds.
use Rattle.std.proofs.Common.{◌≡◌, Bool, true, false, cond, ◌||◌, List, [], ◌∷◌, map, ◌⊎◌, inl, inr, refl, sym, ap, subst, ◌∙◌}
use Rattle.std.specs.List.{All, filter, list_any}
use Rattle.std.proofs.lemmas.Bool.{or_left, or_right}
use Rattle.std.proofs.lemmas.List.Elements.{All-head, All-tail, All-cons, All-nil}
use Rattle.pg_content.specs.Content.{Among}

module _ {A : Type 0} where
  pub all_among : (P : A → Type 0) (xs : List A) (x : A) → All P xs → Among x xs → P x
  all_among P [] x h k = absurd k
  all_among P (y ∷ xs) x h k = elim k [
    | inl same ↦ subst P (sym same) (All-head P y xs h)
    | inr later ↦ all_among P xs x (All-tail P y xs h) later
  ]

  pub among_all : (P : A → Type 0) (xs : List A) → ((x : A) → Among x xs → P x) → All P xs
  among_all P [] h = All-nil P
  among_all P (y ∷ xs) h = All-cons P y xs (h y (inl refl)) (among_all P xs (λ x k. h x (inr k)))

-- ---- of a map

pub among_map : {A B : Type 0} (f : A → B) (xs : List A) (y : B) → Among y (map f xs) → (x : A) × Among x xs × (y ≡ f x)
among_map f [] y k = absurd k
among_map f (x ∷ xs) y k = elim k [ inl same ↦ (x, inl refl, same) | inr later ↦ (let r = among_map f xs y later in (r.0, inr r.1, r.2)) ]

pub map_among : {A B : Type 0} (f : A → B) (xs : List A) (x : A) → Among x xs → Among (f x) (map f xs)
map_among f [] x k = absurd k
map_among f (y ∷ xs) x k = elim k [ inl same ↦ inl (ap f same) | inr later ↦ inr (map_among f xs x later) ]

pub map_map : {A B C : Type 0} (f : B → C) (g : A → B) (e : A → C) (xs : List A) → ((x : A) → Among x xs → f (g x) ≡ e x) → map f (map g xs) ≡ map e xs
map_map f g e [] same = refl
map_map f g e (x ∷ xs) same = λ i. same x (inl refl) i ∷ map_map f g e xs (λ y l. same y (inr l)) i

-- ---- of a filter

module _ {A : Type 0} (keeps : A → Bool) (x : A) where
  kept_by : (y : A) (xs : List A) (b : Bool) → keeps y ≡ b → (Among x (filter keeps xs) → Among x xs × (keeps x ≡ true))
      → Among x (cond b (y ∷ filter keeps xs) (filter keeps xs)) → ((x ≡ y) ⊎ Among x xs) × (keeps x ≡ true)
  kept_by y xs true e rest k = elim k [
    | inl same ↦ (inl same, ap keeps same ∙ e)
    | inr later ↦ (let r = rest later in (inr r.0, r.1))
  ]
  kept_by y xs false e rest k = let r = rest k in (inr r.0, r.1)

  pub among_filter : (xs : List A) → Among x (filter keeps xs) → Among x xs × (keeps x ≡ true)
  among_filter [] k = absurd k
  among_filter (y ∷ xs) k = kept_by y xs (keeps y) refl (among_filter xs) k

  stays_by : (y : A) (xs : List A) (b : Bool) → keeps y ≡ b → (Among x xs → Among x (filter keeps xs)) → (x ≡ y) ⊎ Among x xs → keeps x ≡ true
      → Among x (cond b (y ∷ filter keeps xs) (filter keeps xs))
  stays_by y xs true e rest k t = elim k [ inl same ↦ inl same | inr later ↦ inr (rest later) ]
  stays_by y xs false e rest k t = elim k [ inl same ↦ absurd (let f : true ≡ false = sym t ∙ ap keeps same ∙ e in cc) | inr later ↦ rest later ]

  pub filter_among : (xs : List A) → Among x xs → keeps x ≡ true → Among x (filter keeps xs)
  filter_among [] k t = absurd k
  filter_among (y ∷ xs) k t = stays_by y xs (keeps y) refl (λ l. filter_among xs l t) k t

-- ---- of a test

module _ {A : Type 0} (p : A → Bool) where
  found_by : (y : A) (xs : List A) (b : Bool) → p y ≡ b → (list_any p xs ≡ true → (x : A) × Among x xs × (p x ≡ true)) → (b || list_any p xs) ≡ true → (x : A) × ((x ≡ y) ⊎ Among x xs) × (p x ≡ true)
  found_by y xs true e rest h = (y, inl refl, e)
  found_by y xs false e rest h = let r = rest h in (r.0, inr r.1, r.2)

  pub any_found : (xs : List A) → list_any p xs ≡ true → (x : A) × Among x xs × (p x ≡ true)
  any_found [] e = absurd (let f : false ≡ true = e in cc)
  any_found (x ∷ xs) e = found_by x xs (p x) refl (any_found xs) e

  pub any_by : (xs : List A) (x : A) → Among x xs → p x ≡ true → list_any p xs ≡ true
  any_by [] x k e = absurd k
  any_by (y ∷ xs) x k e = elim k [
    | inl same ↦ or_left (p y) (list_any p xs) (ap p (sym same) ∙ e)
    | inr later ↦ or_right (p y) (list_any p xs) (any_by xs x later e)
  ]
