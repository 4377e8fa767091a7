-- Choices by a test, and lists: what holds of all of their parts.
use Rattle.std.proofs.Common.{◌≡◌, Bool, true, false, cond, List, [], ◌∷◌, Some, refl, subst, All}
use Rattle.std.specs.List.{flat_map}
use Rattle.std.specs.Map.{lookup}
use Rattle.std.specs.BTreeMap.{is_at}
use Rattle.std.proofs.lemmas.List.Elements.{All-append, All-nil, All-head, All-tail}
use Rattle.std.proofs.lemmas.Map.Views.{Contains-from_lookup}
use Rattle.pg_base.specs.declared.id.FileId.{FileId}
use Rattle.pg_base.specs.Id.{file_cmp}
use Rattle.pg_base.proofs.Orders.{is_same_file-true}
use Rattle.pg_cells.specs.pg_replica.declared.replica.Replica.{Replica}

-- a choice has what both sides have
pub chosen : {A : Type 0} (P : A → Type 0) (t : Bool) (x y : A) → P x → P y → P (cond t x y)
chosen P true x y h k = h
chosen P false x y h k = k

-- a choice by a test, where each side may use it
pub decided : {A : Type 0} (P : A → Type 0) (t : Bool) (x y : A) → (t ≡ true → P x) → (t ≡ false → P y) → P (cond t x y)
decided P true x y h k = h refl
decided P false x y h k = k refl

pub All-flat_map : {A B : Type 0} (P : B → Type 0) (f : A → List B) (xs : List A) → All (λ x. All P (f x)) xs → All P (flat_map f xs)
All-flat_map P f [] h = All-nil P
All-flat_map P f (x ∷ xs) h = All-append P (f x) (flat_map f xs) (All-head (λ z. All P (f z)) x xs h) (All-flat_map P f xs (All-tail (λ z. All P (f z)) x xs h))

-- what holds of all replicas holds of the one that a look-up finds
pub found_replica : (P : Replica → Type 0) (file : FileId) (x : Replica) (es : List (FileId × Replica)) → All (λ r. P r.1) es → lookup (is_at (file_cmp file)) es ≡ Some x → P x
found_replica P file x es h e =
    let among = Contains-from_lookup {eq = λ (a : FileId). is_at (file_cmp a)} is_same_file-true file x es e in
    let Q : FileId × Replica → Type 0 = (λ r. P r.1) in
    subst Q among.2 (h among.0 (file, x) among.1)
