-- Lists one behind another: what is sent so far, and the first element.
use Rattle.std.proofs.Common.{◌≡◌, ℕ, ◌<◌, ◌+◌, length, drop, get_or, None, Some, List, [], ◌∷◌, ◌++◌, refl, ap, ◌∙◌}
use Rattle.std.specs.List.{flat_map, slice_get}
use Rattle.pg_unacked.proofs.DueKeys.{pieces_from}

front : {A : Type 0} (xs ys : List A) (a : A) → slice_get xs 0 ≡ Some a → slice_get (xs ++ ys) 0 ≡ Some a
front [] ys a h = cc
front (x ∷ xs) ys a h = h

none_in_front : {A : Type 0} (xs ys : List A) → slice_get xs 0 ≡ None → xs ++ ys ≡ ys
none_in_front [] ys h = refl
none_in_front (x ∷ xs) ys h = cc

-- where the first piece has an element, it is the first
pub first_here : {X A : Type 0} (f : X → List A) (xs : List X) (x : X) (rest : List X) (a : A) → xs ≡ x ∷ rest → slice_get (f x) 0 ≡ Some a → slice_get (flat_map f xs) 0 ≡ Some a
first_here f xs x rest a at is = ap (λ l. slice_get (flat_map f l) 0) at ∙ front (f x) (flat_map f rest) a is

-- and else it is that of the others
pub first_later : {X A : Type 0} (f : X → List A) (xs : List X) (x : X) (rest : List X) → xs ≡ x ∷ rest → slice_get (f x) 0 ≡ None → slice_get (flat_map f xs) 0 ≡ slice_get (flat_map f rest) 0
first_later f xs x rest at none = ap (λ l. slice_get (flat_map f l) 0) at ∙ ap (λ l. slice_get l 0) (none_in_front (f x) (flat_map f rest) none)

-- the same of the pieces from an index on
pub first_at : {X A : Type 0} (f : X → List A) (xs : List X) (i : ℕ) (x : X) (a : A) → i < length xs → x ≡ get_or xs i x → slice_get (f x) 0 ≡ Some a → slice_get (flat_map f (drop i xs)) 0 ≡ Some a
first_at f xs i x a lt at is = first_here f (drop i xs) x (drop (i + 1) xs) a (pieces_from xs i x lt at) is

pub first_behind : {X A : Type 0} (f : X → List A) (xs : List X) (i : ℕ) (x : X) → i < length xs → x ≡ get_or xs i x → slice_get (f x) 0 ≡ None → slice_get (flat_map f (drop i xs)) 0 ≡ slice_get (flat_map f (drop (i + 1) xs)) 0
first_behind f xs i x lt at none = first_later f (drop i xs) x (drop (i + 1) xs) (pieces_from xs i x lt at) none
