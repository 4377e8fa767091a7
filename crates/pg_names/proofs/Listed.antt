-- Lists of ids in order with the same members are one.
use Rattle.std.proofs.Common.{◌≡◌, Bool, true, false, ◌&&◌, ◌||◌, cond, filter, map, List, [], ◌∷◌, Option, None, Some, is_some, refl, sym, ap, subst, ◌∙◌}
use Rattle.std.specs.List.Sorted.{IsStrictlySortedBy}
use Rattle.std.specs.Map.{keys_of, lookup}
use Rattle.std.specs.BTreeMap.{is_at}
use Rattle.std.proofs.lemmas.List.Kept.{IsStrictlySortedBy-filter}
use Rattle.pg_base.specs.declared.id.FileId.{FileId}
use Rattle.pg_base.specs.Id.{file_cmp, is_same_file}
use Rattle.pg_base.proofs.Entries.{entries_from_lookup}
use Rattle.pg_base.proofs.Orders.{file_exact, file_total, is_same_file-true}
use Rattle.pg_index.specs.Ids.{is_one_of}
use Rattle.pg_index.proofs.Members.{found}
use Rattle.pg_names.specs.Names.{InodeValue, NamesValue, directories, entry_in, is_dir, is_held, known, own_of}
use Rattle.pg_names.specs.Calm.{children, holders, is_cell, is_holder, is_in, is_placed}

abbrev Marks : Type 0
Marks = List (FileId × Unit {0})

abbrev marks : List FileId → Marks
marks ids = map (λ (k : FileId). (k, tt {0})) ids

keys_marks : (ids : List FileId) → keys_of (marks ids) ≡ ids
keys_marks [] = refl
keys_marks (k ∷ ids) = ap (λ ks. k ∷ ks) (keys_marks ids)

one : (o p : Option (Unit {0})) → is_some o ≡ is_some p → o ≡ p
one None None h = refl
one (Some a) (Some b) h = refl
one None (Some b) h = cc
one (Some a) None h = cc

pub same_members : (ids others : List FileId) → IsStrictlySortedBy file_cmp ids → IsStrictlySortedBy file_cmp others → ((q : FileId) → is_one_of q ids ≡ is_one_of q others) → ids ≡ others
same_members ids others a b same =
    let S : List FileId → Type 0 = IsStrictlySortedBy file_cmp in
    let at : (q : FileId) (xs : List FileId) → is_one_of q xs ≡ is_some (lookup (is_at (file_cmp q)) (marks xs)) = λ q xs. ap (is_one_of q) (sym (keys_marks xs)) ∙ found q (marks xs) in
    sym (keys_marks ids)
    ∙ ap (λ (es : Marks). keys_of es) (entries_from_lookup file_cmp file_total file_exact (marks ids) (marks others) (subst S (sym (keys_marks ids)) a) (subst S (sym (keys_marks others)) b)
    (λ q. one _ _ (sym (at q ids) ∙ same q ∙ at q others)))
    ∙ keys_marks others

-- ---- those of a list that pass a test

and_no : (b : Bool) → false ≡ (b && false)
and_no true = refl
and_no false = refl

and_yes : (b : Bool) → b ≡ (b && true)
and_yes true = refl
and_yes false = refl

kept_by : (p : FileId → Bool) (q k : FileId) (u t r : Bool) (xs : List FileId) → p k ≡ u → is_same_file q k ≡ t → is_one_of q xs ≡ (p q && r) → is_one_of q (cond u (k ∷ xs) xs) ≡ (p q && (t || r))
kept_by p q k true true r xs is same rest = ap (λ b. b || is_one_of q xs) same ∙ sym (ap (λ b. b && true) (ap p (is_same_file-true q k same) ∙ is))
kept_by p q k true false r xs is apart rest = ap (λ b. b || is_one_of q xs) apart ∙ rest
kept_by p q k false true r xs is same rest =
    let free : p q ≡ false = ap p (is_same_file-true q k same) ∙ is in
    rest ∙ ap (λ b. b && r) free ∙ sym (ap (λ b. b && true) free)
kept_by p q k false false r xs is apart rest = rest

member_filter : (p : FileId → Bool) (q : FileId) (ids : List FileId) → is_one_of q (filter p ids) ≡ (p q && is_one_of q ids)
member_filter p q [] = and_no (p q)
member_filter p q (k ∷ ids) = kept_by p q k (p k) (is_same_file q k) (is_one_of q ids) (filter p ids) refl refl (member_filter p q ids)

abbrev Things : Type 0
Things = List (FileId × InodeValue)

listed : (p : FileId → Bool) (ids : List FileId) (held : Things) → IsStrictlySortedBy file_cmp ids → IsStrictlySortedBy file_cmp (keys_of held)
    → ((q : FileId) → is_one_of q ids ≡ (p q && is_some (lookup (is_at (file_cmp q)) held))) → ids ≡ filter p (keys_of held)
listed p ids held a b h =
    same_members ids (filter p (keys_of held)) a (IsStrictlySortedBy-filter file_cmp p (keys_of held) b)
    (λ q. h q ∙ ap (λ x. p q && x) (sym (found q held)) ∙ sym (member_filter p q (keys_of held)))

module _ (s : NamesValue) (sorted : IsStrictlySortedBy file_cmp (keys_of s.held)) where
  pub listed_dirs : (ids : List FileId) → IsStrictlySortedBy file_cmp ids → ((q : FileId) → is_one_of q ids ≡ (is_dir q && is_held s q)) → ids ≡ directories s
  listed_dirs ids order h = listed is_dir ids s.held order sorted h

  placed_held : (live : Bool) (dir q : FileId) (o : Option InodeValue) → is_in live dir q (own_of o) ≡ (is_in live dir q (own_of o) && is_some o)
  placed_held live dir q None = refl
  placed_held live dir q (Some x) = and_yes (is_in live dir q (Some x.own))

  pub listed_children : (dir : FileId) (ids : List FileId) → IsStrictlySortedBy file_cmp ids → ((q : FileId) → is_one_of q ids ≡ is_placed s true dir q) → ids ≡ children s dir
  listed_children dir ids order h = listed (is_placed s true dir) ids s.held order sorted (λ q. h q ∙ placed_held true dir q (known s q))

  holder_held : (child : FileId) (o : Option InodeValue) → is_cell (entry_in child o) ≡ (is_cell (entry_in child o) && is_some o)
  holder_held child None = refl
  holder_held child (Some x) = and_yes (is_cell (entry_in child (Some x)))

  pub listed_holders : (child : FileId) (ids : List FileId) → IsStrictlySortedBy file_cmp ids → ((dir : FileId) → is_one_of dir ids ≡ is_holder s child dir) → ids ≡ holders s child
  listed_holders child ids order h = listed (is_holder s child) ids s.held order sorted (λ q. h q ∙ holder_held child (known s q))
