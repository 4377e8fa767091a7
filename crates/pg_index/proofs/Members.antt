-- Which ids are in a set, and in the sets by id, after a change. R is the derived order of ids,
-- which is that of the definitions.
use Rattle.std.proofs.Common.{◌≡◌, Bool, true, false, ◌||◌, ◌&&◌, not, cond, is_some, List, [], ◌∷◌, Option, Some, refl, sym, ap, ◌∙◌}
use Rattle.std.specs.declared.cmp.Ordering.{Ordering}
use Rattle.std.specs.declared.cmp.Ordering.TheVariants.{Less, Equal, Greater}
use Rattle.std.specs.Ordering.{is_eq, ordering_reverse}
use Rattle.std.specs.Map.{keys_of, lookup}
use Rattle.std.specs.BTreeMap.{is_at}
use Rattle.pg_base.specs.declared.id.FileId.{FileId}
use Rattle.pg_base.specs.Id.{file_cmp, is_same_file}
use Rattle.pg_base.proofs.Orders.{file_total, is_same_file-true}
use Rattle.pg_index.specs.Ids.{ListsValue, has, ids_at, is_one_of, or_none}

abbrev pub Order : Type 0
Order = FileId → FileId → Ordering

eq_reverse : (o : Ordering) → is_eq (ordering_reverse o) ≡ is_eq o
eq_reverse Less = refl
eq_reverse Equal = refl
eq_reverse Greater = refl

-- ids compare alike in either order
pub same_sym : (a b : FileId) → is_same_file a b ≡ is_same_file b a
same_sym a b = ap is_eq (file_total.antisymm a b) ∙ eq_reverse (file_cmp b a)

-- ---- one set

some_or : {X : Type 0} (b : Bool) (v : X) (o : Option X) (r : Bool) → r ≡ is_some o → (b || r) ≡ is_some (cond b (Some v) o)
some_or true v o r h = refl
some_or false v o r h = h

-- an id is in a set where it is found there
pub found : {X : Type 0} (q : FileId) (es : List (FileId × X)) → is_one_of q (keys_of es) ≡ is_some (lookup (is_at (file_cmp q)) es)
found q [] = refl
found q (e ∷ es) = some_or (is_at (file_cmp q) e.0) e.1 (lookup (is_at (file_cmp q)) es) (is_one_of q (keys_of es)) (found q es)

-- ---- sets by id

-- what is found, after the set of one id was written
abbrev pub IsPut : ListsValue → ListsValue → FileId → List FileId → Type 0
IsPut old new key w = (k : FileId) → lookup (is_at (file_cmp k)) new ≡ cond (is_same_file key k) (Some w) (lookup (is_at (file_cmp k)) old)

module _ (old new : ListsValue) (key : FileId) (w ids : List FileId) (put : IsPut old new key w) (was : ids_at old key ≡ ids) where
  at_key : (k : FileId) → is_same_file key k ≡ true → ids_at old k ≡ ids
  at_key k same = ap (ids_at old) (sym (is_same_file-true key k same)) ∙ was

  more_by : (file : FileId) → ((q : FileId) → is_one_of q w ≡ (is_same_file file q || is_one_of q ids)) → (k q : FileId) (t : Bool) → is_same_file key k ≡ t
      → is_one_of q (or_none (cond t (Some w) (lookup (is_at (file_cmp k)) old))) ≡ ((t && is_same_file file q) || has old k q)
  more_by file more k q true same = more q ∙ ap (λ xs. is_same_file file q || is_one_of q xs) (sym (at_key k same))
  more_by file more k q false same = refl

  pub more_at : (file : FileId) → ((q : FileId) → is_one_of q w ≡ (is_same_file file q || is_one_of q ids))
      → (k q : FileId) → has new k q ≡ ((is_same_file key k && is_same_file file q) || has old k q)
  more_at file more k q = ap (λ o. is_one_of q (or_none o)) (put k) ∙ more_by file more k q (is_same_file key k) refl

  less_by : (file : FileId) → ((q : FileId) → is_one_of q w ≡ (not (is_same_file file q) && is_one_of q ids)) → (k q : FileId) (t : Bool) → is_same_file key k ≡ t
      → is_one_of q (or_none (cond t (Some w) (lookup (is_at (file_cmp k)) old))) ≡ (not (t && is_same_file file q) && has old k q)
  less_by file less k q true same = less q ∙ ap (λ xs. not (is_same_file file q) && is_one_of q xs) (sym (at_key k same))
  less_by file less k q false same = refl

  pub less_at : (file : FileId) → ((q : FileId) → is_one_of q w ≡ (not (is_same_file file q) && is_one_of q ids))
      → (k q : FileId) → has new k q ≡ (not (is_same_file key k && is_same_file file q) && has old k q)
  less_at file less k q = ap (λ o. is_one_of q (or_none o)) (put k) ∙ less_by file less k q (is_same_file key k) refl

  kept_by : w ≡ ids → (k q : FileId) (t : Bool) → is_same_file key k ≡ t → is_one_of q (or_none (cond t (Some w) (lookup (is_at (file_cmp k)) old))) ≡ has old k q
  kept_by same k q true e = ap (is_one_of q) (same ∙ sym (at_key k e))
  kept_by same k q false e = refl

  pub kept_at : w ≡ ids → (k q : FileId) → has new k q ≡ has old k q
  kept_at same k q = ap (λ o. is_one_of q (or_none o)) (put k) ∙ kept_by same k q (is_same_file key k) refl
