-- Lists of dues in order that have the same dues are one.
use Rattle.std.proofs.Common.{◌≡◌, Bool, true, false, ◌||◌, cond, is_some, List, [], ◌∷◌, Option, None, Some, refl, sym, ap, subst, ◌∙◌}
use Rattle.std.specs.List.Sorted.{IsStrictlySortedBy}
use Rattle.std.specs.Map.{keys_of, lookup}
use Rattle.std.specs.BTreeMap.{is_at}
use Rattle.pg_base.proofs.Entries.{entries_from_lookup}
use Rattle.pg_unacked.specs.declared.due.Due.{Due}
use Rattle.pg_unacked.specs.Due.{due_cmp, is_due, is_same_due}
use Rattle.pg_unacked.proofs.Orders.{due_exact, due_total}

abbrev Marks : Type 0
Marks = List (Due × Unit {0})

-- each due as a key
abbrev marks : List Due → Marks
marks [] = []
marks (d ∷ ds) = (d, tt) ∷ marks ds

keys_marks : (dues : List Due) → keys_of (marks dues) ≡ dues
keys_marks [] = refl
keys_marks (d ∷ ds) = ap (λ xs. d ∷ xs) (keys_marks ds)

found_by : (t : Bool) (o : Option (Unit {0})) (r : Bool) → r ≡ is_some o → (t || r) ≡ is_some (cond t (Some tt) o)
found_by true o r h = refl
found_by false o r h = h

found : (due : Due) (dues : List Due) → is_due due dues ≡ is_some (lookup (is_at (due_cmp due)) (marks dues))
found due [] = refl
found due (d ∷ ds) = found_by (is_same_due due d) (lookup (is_at (due_cmp due)) (marks ds)) (is_due due ds) (found due ds)

one : (a b : Option (Unit {0})) → is_some a ≡ is_some b → a ≡ b
one None None h = refl
one (Some a) (Some b) h = refl
one None (Some b) h = cc
one (Some a) None h = cc

pub same_dues : (xs ys : List Due) → IsStrictlySortedBy due_cmp xs → IsStrictlySortedBy due_cmp ys → ((d : Due) → is_due d xs ≡ is_due d ys) → xs ≡ ys
same_dues xs ys a b same =
    let S : List Due → Type 0 = IsStrictlySortedBy due_cmp in
    sym (keys_marks xs)
    ∙ ap (λ (es : Marks). keys_of es) (entries_from_lookup due_cmp due_total due_exact (marks xs) (marks ys) (subst S (sym (keys_marks xs)) a) (subst S (sym (keys_marks ys)) b) (λ d. one _ _ (sym (found d xs) ∙ same d ∙ found d ys)))
    ∙ keys_marks ys
