-- Lists of things in order: what is among them, and when two such lists are one.
use Rattle.std.proofs.Common.{◌≡◌, Bool, true, false, ◌&&◌, ◌||◌, cond, List, [], ◌∷◌, Option, None, Some, is_some, refl, sym, ap, ◌∙◌, subst}
use Rattle.std.specs.List.{filter, find, slice_get}
use Rattle.std.specs.List.Sorted.{IsStrictlySortedBy}
use Rattle.std.specs.BTreeMap.{is_at}
use Rattle.std.specs.Map.{keys_of, lookup}
use Rattle.std.proofs.lemmas.Bool.{and_right}
use Rattle.std.proofs.lemmas.List.Kept.{IsStrictlySortedBy-filter}
use Rattle.pg_base.specs.declared.id.FileId.{FileId}
use Rattle.pg_base.specs.Id.{file_cmp, is_same_file}
use Rattle.pg_base.proofs.Orders.{file_exact, file_total, is_same_file-true, is_same_file-refl}
use Rattle.pg_base.proofs.Entries.{entries_from_lookup}
use Rattle.pg_index.specs.Ids.{is_one_of}
use Rattle.pg_names.proofs.Lookups.{apart_back}
use Rattle.pg_house.specs.Facts.{is_among}

-- ---- what is among a list

back_by : (a b : FileId) (t : Bool) → is_same_file a b ≡ t → t ≡ is_same_file b a
back_by a b true h = sym (ap (is_same_file b) (is_same_file-true a b h) ∙ is_same_file-refl b)
back_by a b false h = sym (apart_back a b h)

-- ids are one in either order
pub same_back : (a b : FileId) → is_same_file a b ≡ is_same_file b a
same_back a b = back_by a b (is_same_file a b) refl

pub one_of_among : (q : FileId) (ks : List FileId) → is_one_of q ks ≡ is_among q ks
one_of_among q [] = refl
one_of_among q (k ∷ ks) = ap (λ t. t || is_one_of q ks) (same_back q k) ∙ ap (λ t. is_same_file k q || t) (one_of_among q ks)

where_by : (p : FileId → Bool) (q k : FileId) (ks : List FileId) (t s : Bool) → p k ≡ t → is_same_file k q ≡ s → is_among q (filter p ks) ≡ (p q && is_among q ks)
    → is_among q (cond t (k ∷ filter p ks) (filter p ks)) ≡ (p q && (s || is_among q ks))
where_by p q k ks false false h e rest = rest
where_by p q k ks false true h e rest =
    let out : p q ≡ false = ap p (sym (is_same_file-true k q e)) ∙ h in
    rest ∙ ap (λ b. b && is_among q ks) out ∙ sym (ap (λ b. b && true) out)
where_by p q k ks true false h e rest = ap (λ b. b || is_among q (filter p ks)) e ∙ rest
where_by p q k ks true true h e rest =
    let kept : p q ≡ true = ap p (sym (is_same_file-true k q e)) ∙ h in
    ap (λ b. b || is_among q (filter p ks)) e ∙ sym (ap (λ b. b && true) kept)

-- among those that pass a test there is what passes it
pub among_where : (p : FileId → Bool) (q : FileId) (ks : List FileId) → is_among q (filter p ks) ≡ (p q && is_among q ks)
among_where p q [] = sym (and_right (p q) false refl)
among_where p q (k ∷ ks) =
    where_by p q k ks (p k) (is_same_file k q) refl refl (among_where p q ks)

keys_by : {X : Type 0} (t a : Bool) (x : X) (o : Option X) → a ≡ is_some o → (t || a) ≡ is_some (cond t (Some x) o)
keys_by true a x o h = refl
keys_by false a x o h = h

-- among the keys there is what is found
pub among_keys : {X : Type 0} (q : FileId) (es : List (FileId × X)) → is_among q (keys_of es) ≡ is_some (lookup (is_at (file_cmp q)) es)
among_keys q [] = refl
among_keys q (e ∷ es) =
    ap (λ t. t || is_among q (keys_of es)) (same_back e.0 q)
    ∙ keys_by (is_same_file q e.0) (is_among q (keys_of es)) e.1 (lookup (is_at (file_cmp q)) es) (among_keys q es)

-- ---- lists with the same members

abbrev Here : Bool → Option (Unit {0})
Here t = cond t (Some tt) None

abbrev units : List FileId → List (FileId × Unit {0})
units [] = []
units (k ∷ ks) = (k, tt) ∷ units ks

keys_units : (ks : List FileId) → keys_of (units ks) ≡ ks
keys_units [] = refl
keys_units (k ∷ ks) = ap (λ xs. k ∷ xs) (keys_units ks)

either : (s r : Bool) → cond s (Some tt) (Here r) ≡ Here (s || r)
either true r = refl
either false r = refl

found : (q : FileId) (ks : List FileId) → lookup (is_at (file_cmp q)) (units ks) ≡ Here (is_among q ks)
found q [] = refl
found q (k ∷ ks) =
    ap (cond (is_same_file q k) (Some tt)) (found q ks) ∙ either (is_same_file q k) (is_among q ks)
    ∙ ap (λ t. Here (t || is_among q ks)) (same_back q k)

-- in order, they are one
pub same_members : (ks ls : List FileId) → IsStrictlySortedBy file_cmp ks → IsStrictlySortedBy file_cmp ls → ((q : FileId) → is_among q ks ≡ is_among q ls) → ks ≡ ls
same_members ks ls s t same =
    let P : List FileId → Type 0 = IsStrictlySortedBy file_cmp in
    sym (keys_units ks)
    ∙ ap keys_of (entries_from_lookup file_cmp file_total file_exact (units ks) (units ls) (subst P (sym (keys_units ks)) s) (subst P (sym (keys_units ls)) t)
    (λ q. found q ks ∙ ap Here (same q) ∙ sym (found q ls)))
    ∙ keys_units ls

gated : (a b t : Bool) → ((t ≡ true) → a ≡ b) → (t && a) ≡ (t && b)
gated a b true h = h refl
gated a b false h = refl

-- and so are those that pass a test, where what passes it is among both or neither
pub same_where : (p : FileId → Bool) (ks ls : List FileId) → IsStrictlySortedBy file_cmp ks → IsStrictlySortedBy file_cmp ls → ((q : FileId) → p q ≡ true → is_among q ks ≡ is_among q ls) → filter p ks ≡ filter p ls
same_where p ks ls s t same =
    same_members (filter p ks) (filter p ls) (IsStrictlySortedBy-filter file_cmp p ks s) (IsStrictlySortedBy-filter file_cmp p ls t)
    (λ q. among_where p q ks ∙ gated (is_among q ks) (is_among q ls) (p q) (same q) ∙ sym (among_where p q ls))

-- ---- tests, one behind the other

swap_by : {A : Type 0} (p q : A → Bool) (a : A) (xs : List A) (s t : Bool) → filter p (filter q xs) ≡ filter q (filter p xs) → p a ≡ s → q a ≡ t
    → filter p (cond t (a ∷ filter q xs) (filter q xs)) ≡ filter q (cond s (a ∷ filter p xs) (filter p xs))
swap_by p q a xs true true rest h g = ap (λ b. cond b (a ∷ filter p (filter q xs)) (filter p (filter q xs))) h ∙ ap (λ ys. a ∷ ys) rest ∙ sym (ap (λ b. cond b (a ∷ filter q (filter p xs)) (filter q (filter p xs))) g)
swap_by p q a xs true false rest h g = rest ∙ sym (ap (λ b. cond b (a ∷ filter q (filter p xs)) (filter q (filter p xs))) g)
swap_by p q a xs false true rest h g = ap (λ b. cond b (a ∷ filter p (filter q xs)) (filter p (filter q xs))) h ∙ rest
swap_by p q a xs false false rest h g = rest

pub swap : {A : Type 0} (p q : A → Bool) (xs : List A) → filter p (filter q xs) ≡ filter q (filter p xs)
swap p q [] = refl
swap p q (a ∷ xs) = swap_by p q a xs (p a) (q a) (swap p q xs) refl refl

-- those that pass two tests
both_by : {A : Type 0} (p q : A → Bool) (a : A) (xs : List A) (t : Bool) → filter (λ x. p x && q x) xs ≡ filter q (filter p xs)
    → cond (t && q a) (a ∷ filter (λ x. p x && q x) xs) (filter (λ x. p x && q x) xs) ≡ filter q (cond t (a ∷ filter p xs) (filter p xs))
both_by p q a xs true ih = ap (λ ys. cond (q a) (a ∷ ys) ys) ih
both_by p q a xs false ih = ih

pub both_tests : {A : Type 0} (p q : A → Bool) (xs : List A) → filter (λ x. p x && q x) xs ≡ filter q (filter p xs)
both_tests p q [] = refl
both_tests p q (a ∷ xs) = both_by p q a xs (p a) (both_tests p q xs)

-- ---- the first that passes

first_by : {A : Type 0} (p : A → Bool) (a : A) (xs : List A) (t : Bool) → find p xs ≡ slice_get (filter p xs) 0
    → cond t (Some a) (find p xs) ≡ slice_get (cond t (a ∷ filter p xs) (filter p xs)) 0
first_by p a xs true rest = refl
first_by p a xs false rest = rest

pub first_is : {A : Type 0} (p : A → Bool) (xs : List A) → find p xs ≡ slice_get (filter p xs) 0
first_is p [] = refl
first_is p (x ∷ xs) = first_by p x xs (p x) (first_is p xs)
