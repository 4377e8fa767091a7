-- One step of a walk, and one member of a chain.
use Rattle.std.proofs.Common.{ℕ, Bool, true, false, if◌then◌else◌, suc, ◌≡◌, ◌+◌, ◌-◌, ◌<◌, ◌≤◌, ◌||◌, List, [], ◌∷◌, Some, refl, ap, ◌∙◌, drop, length, nat_lt, take, length-drop, get_or, arith}
use Rattle.std.proofs.lemmas.Bool.Decides.{nat_tests}
use Rattle.std.specs.List.{slice_get}
use Rattle.std.proofs.lemmas.List.{drop_more, get_or-take, length-take-le}
use Rattle.std.proofs.lemmas.Option.{get_or_from_slice_get}
use Rattle.pg_base.specs.declared.id.FileId.{FileId}
use Rattle.pg_base.specs.Id.{is_same_file}
use Rattle.pg_register.specs.Place.{root}
use Rattle.pg_names.specs.declared.attributes.Attributes.{Attributes}
use Rattle.pg_names.specs.Names.{NamesValue, own_at}
use Rattle.pg_lookup.specs.declared.paths.Found.{Found}
use Rattle.pg_lookup.specs.Chain.{is_above_within, is_at_or_above}
use Rattle.pg_lookup.specs.Walk.{and_then, has_more, look_up, walk_from}

some_by_length : (ys : List (List ℕ)) → has_more ys ≡ nat_lt 0 (length ys)
some_by_length [] = refl
some_by_length (y ∷ ys) = grind (arith, nat_tests)

less_than : (k n : ℕ) → nat_lt 0 (n - k) ≡ nat_lt k n
less_than k n = grind (arith, nat_tests)

-- more components follow where the next index is in the list
more_than : (k : ℕ) (xs : List (List ℕ)) → has_more (drop k xs) ≡ nat_lt k (length xs)
more_than k xs =
    some_by_length (drop k xs) ∙ ap (λ n. nat_lt 0 n) (length-drop k xs) ∙ less_than k (length xs)

-- the way from a component on is one step, and the way from the next on
pub one_step : (names : NamesValue) (found : Found) (i count : ℕ) (needs_dir : Bool)
    → (parts : List (List ℕ)) (name : List ℕ) → i < count → count ≤ length parts
    → slice_get parts i ≡ Some name
    → walk_from names found (i + 1) needs_dir (drop i (take count parts))
    ≡ and_then (look_up names found (i + 1) (nat_lt (i + 1) count || needs_dir) name)
    (λ next. walk_from names next (i + 1 + 1) needs_dir (drop (i + 1) (take count parts)))
one_step names found i count needs_dir parts name less most is =
    let xs = take count parts in
    let long : length xs ≡ count = length-take-le count parts most in
    let at : get_or xs i name ≡ name =
    get_or-take count parts i name less ∙ get_or_from_slice_get parts i name name is in
    let rest = drop (i + 1) xs in
    ap (walk_from names found (i + 1) needs_dir) (drop_more xs i name (omega (arith, long)))
    ∙ ap (λ x. walk_from names found (i + 1) needs_dir (x ∷ rest)) at
    ∙ ap (λ b. and_then (look_up names found (i + 1) (b || needs_dir) name)
    (λ next. walk_from names next (i + 1 + 1) needs_dir rest))
    (more_than (i + 1) xs ∙ ap (λ n. nat_lt (i + 1) n) long)

one_less : (m n : ℕ) → m < n → n - m ≡ suc (n - (m + 1))
one_less m n less = omega arith

-- a member of the chain that is neither the thing nor the root tells what the next one tells
pub next_member : (names : NamesValue) (thing dir : FileId) (own : Attributes) (m n : ℕ) → m < n
    → own_at names dir ≡ Some own → is_same_file dir thing ≡ false → is_same_file dir root ≡ false
    → is_above_within names thing (n - m) dir
    ≡ is_above_within names thing (n - (m + 1)) own.place.parent
next_member names thing dir own m n less is other inner =
    let k = n - (m + 1) in
    let above = is_above_within names thing k in
    ap (λ (j : ℕ). is_above_within names thing j dir) (one_less m n less)
    ∙ ap (λ o. is_at_or_above above thing dir o) is
    ∙ ap (λ (b : Bool). if b then true
    else (if is_same_file dir root then false else above own.place.parent)) other
    ∙ ap (λ (b : Bool). if b then false else above own.place.parent) inner
