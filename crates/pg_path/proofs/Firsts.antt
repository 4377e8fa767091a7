-- The first element that lacks a property: there is one such index, and a search finds it.
use Rattle.std.proofs.Common.{ℕ, ◌≡◌, ◌<◌, Option, Some, None, List, length, arith, MatchOption, IfSome, IfNone, All, subst}
use Rattle.std.specs.List.{AllWithin, HoldsAt}
use Rattle.std.proofs.lemmas.List.Elements.{All-from_all_within}
use Rattle.std.proofs.lemmas.Option.{slice_get_within, get_or_from_slice_get}
use Rattle.std.specs.List.{slice_get}
use Rattle.pg_path.specs.First.{IsFirstWithout}

pub found : {X : Type 0} (P : X → Type 0) (xs : List X) (r : Option ℕ) → MatchOption r (AllWithin P xs 0 (length xs)) (λ i. (i < length xs) × HoldsAt (λ x. ¬ (P x)) xs i × AllWithin P xs 0 i) → IfSome r (IsFirstWithout P xs)
found P xs None h = tt
found P xs (Some i) h = record { inside = h.0; lacks = h.1; before = h.2 }

pub none : {X : Type 0} (P : X → Type 0) (xs : List X) (r : Option ℕ) → MatchOption r (AllWithin P xs 0 (length xs)) (λ i. (i < length xs) × HoldsAt (λ x. ¬ (P x)) xs i × AllWithin P xs 0 i) → IfNone r (All P xs)
none P xs None h = All-from_all_within P xs h
none P xs (Some i) h = tt

-- a list of which each element has P has no first without it
pub not_first : {X : Type 0} (P : X → Type 0) (xs : List X) (d : X) (i : ℕ) → All P xs → IsFirstWithout P xs i → ⊥
not_first P xs d i each h = h.lacks d (each i d h.inside)

pub one_first : {X : Type 0} (P : X → Type 0) (xs : List X) (d : X) (i j : ℕ) → IsFirstWithout P xs i → IsFirstWithout P xs j → i ≡ j
one_first P xs d i j a b =
    let no_less : i < j → ⊥ = λ lt. a.lacks d (b.before i d (omega arith) lt) in
    let no_more : j < i → ⊥ = λ lt. b.lacks d (a.before j d (omega arith) lt) in
    omega (arith, no_less, no_more)

-- what each element has, the element at an index has
pub kept_at : {X : Type 0} (P : X → Type 0) (xs : List X) (k : ℕ) (x : X) → All P xs → slice_get xs k ≡ Some x → P x
kept_at P xs k x each e = subst P (get_or_from_slice_get xs k x x e) (each k x (slice_get_within xs k x e))
