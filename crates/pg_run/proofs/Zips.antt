-- Two lists that correspond, where the first is filtered.
use Rattle.std.proofs.Common.{[], ◌≡◌, Bool, true, false, cond, List, ◌∷◌, ◌++◌, map, refl, sym, ap, subst, All}
use Rattle.std.specs.List.{AllZip, filter, flat_map}
use Rattle.std.proofs.lemmas.List.Elements.{All-head, All-tail}

zip_append : {A B : Type 0} (R : A → B → Type 0) (xs zs : List A) (ys ws : List B) → AllZip R xs ys → AllZip R zs ws → AllZip R (xs ++ zs) (ys ++ ws)
zip_append R [] zs [] ws h k = k
zip_append R [] zs (y ∷ ys) ws h k = absurd h
zip_append R (x ∷ xs) zs [] ws h k = absurd h
zip_append R (x ∷ xs) zs (y ∷ ys) ws h k = (h.0, zip_append R xs zs ys ws h.1 k)

filter_head : {A : Type 0} (p : A → Bool) (x : A) (xs ys : List A) (t : Bool) → filter p (xs ++ ys) ≡ filter p xs ++ filter p ys
    → cond t (x ∷ filter p (xs ++ ys)) (filter p (xs ++ ys)) ≡ cond t (x ∷ filter p xs) (filter p xs) ++ filter p ys
filter_head p x xs ys true e = ap (λ l. x ∷ l) e
filter_head p x xs ys false e = e

filter_parts : {A : Type 0} (p : A → Bool) (xs ys : List A) → filter p (xs ++ ys) ≡ filter p xs ++ filter p ys
filter_parts p [] ys = refl
filter_parts p (x ∷ xs) ys = filter_head p x xs ys (p x) (filter_parts p xs ys)

-- lists of parts correspond where the parts do
pub zip_parts : {X A B : Type 0} (R : A → B → Type 0) (p : A → Bool) (f : X → List A) (g : X → List B) (xs : List X)
    → All (λ x. AllZip R (filter p (f x)) (g x)) xs → AllZip R (filter p (flat_map f xs)) (flat_map g xs)
zip_parts R p f g [] h = tt
zip_parts R p f g (x ∷ xs) h =
    subst (λ l. AllZip R l (g x ++ flat_map g xs)) (sym (filter_parts p (f x) (flat_map f xs)))
    (zip_append R (filter p (f x)) (filter p (flat_map f xs)) (g x) (flat_map g xs)
    (All-head (λ y. AllZip R (filter p (f y)) (g y)) x xs h)
    (zip_parts R p f g xs (All-tail (λ y. AllZip R (filter p (f y)) (g y)) x xs h)))

-- where each part of the first has one element, or none where that is filtered out
pub zip_head : {A B : Type 0} (R : A → B → Type 0) (x : A) (xs : List A) (ys ws : List B) (t : Bool) → AllZip R (cond t (x ∷ []) []) ys → AllZip R xs ws
    → AllZip R (cond t (x ∷ xs) xs) (ys ++ ws)
zip_head R x xs ys ws true h k = zip_append R (x ∷ []) xs ys ws h k
zip_head R x xs ys ws false h k = zip_append R [] xs ys ws h k

pub zip_singles : {X A B : Type 0} (R : A → B → Type 0) (p : A → Bool) (f : X → A) (g : X → List B) (xs : List X)
    → All (λ x. AllZip R (cond (p (f x)) (f x ∷ []) []) (g x)) xs → AllZip R (filter p (map f xs)) (flat_map g xs)
zip_singles R p f g [] h = tt
zip_singles R p f g (x ∷ xs) h =
    zip_head R (f x) (filter p (map f xs)) (g x) (flat_map g xs) (p (f x))
    (All-head (λ y. AllZip R (cond (p (f y)) (f y ∷ []) []) (g y)) x xs h)
    (zip_singles R p f g xs (All-tail (λ y. AllZip R (cond (p (f y)) (f y ∷ []) []) (g y)) x xs h))
