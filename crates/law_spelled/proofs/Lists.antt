-- Lists that are made of lists, and what a look at one finds.
use Rattle.std.proofs.Common.{ℕ, ◌≡◌, List, [], ◌∷◌, Some, All, flat_map, slice_get, subst}
use Rattle.std.proofs.lemmas.List.Elements.{All-append, All-head, All-nil, All-tail}
use Rattle.std.proofs.lemmas.Option.{get_or_from_slice_get, slice_get_within}

pub all_parts : {A B : Type 0} (P : B → Type 0) (f : A → List B) (xs : List A) → ((x : A) → All P (f x)) → All P (flat_map f xs)
all_parts P f [] h = All-nil P
all_parts P f (x ∷ xs) h = All-append P (f x) (flat_map f xs) (h x) (all_parts P f xs h)

pub all_where : {A B : Type 0} (Q : A → Type 0) (P : B → Type 0) (f : A → List B) → ((x : A) → Q x → All P (f x)) → (xs : List A) → All Q xs
    → All P (flat_map f xs)
all_where Q P f each [] h = All-nil P
all_where Q P f each (x ∷ xs) h =
    All-append P (f x) (flat_map f xs) (each x (All-head Q x xs h)) (all_where Q P f each xs (All-tail Q x xs h))

pub got : {A : Type 0} (Q : A → Type 0) (xs : List A) (i : ℕ) (x : A) → All Q xs → slice_get xs i ≡ Some x → Q x
got Q xs i x all there = subst Q (get_or_from_slice_get xs i x x there) (all i x (slice_get_within xs i x there))
