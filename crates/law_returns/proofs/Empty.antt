-- A directory that shows no child lists none.
use Rattle.std.proofs.Common.{[], ◌≡◌, Bool, true, false, cond, List, ◌∷◌, filter, Option, None, Some, refl, sym, ap, ◌∙◌}
use Rattle.std.specs.Ordering.{is_lt}
use Rattle.std.specs.Map.{values_of}
use Rattle.pg_run.proofs.theory_flood_pieces.Choices.{chosen}
use Rattle.std.specs.BTreeMap.{is_at}
use Rattle.std.proofs.lemmas.Option.{none-some, same_Some}
use Rattle.pg_run.specs.pg_base.declared.id.FileId.{FileId}
use Rattle.pg_run.specs.pg_base.Id.{file_cmp}
use Rattle.pg_run.specs.pg_entries.declared.entry.Entry.{Entry}
use Rattle.pg_run.specs.pg_entries.Entry.{entry_of, is_listed}
use Rattle.pg_run.specs.pg_entries.Shown.{children_of, insert_row, listing_of, row_cmp, row_of, rows_in_order, rows_of}
use Rattle.pg_run.specs.pg_names.Names.{InodeValue, entry_in}
use Rattle.pg_run.specs.pg_path.declared.row.Row.{Row}
use Rattle.pg_run.specs.pg_checks.Checks.{first_child, first_row}
use Rattle.pg_run.proofs.QuietAnswers.{map_empty}

no_row : (rows : List Row) → first_row rows ≡ None → rows ≡ []
no_row [] h = refl
no_row (row ∷ rows) h = absurd (none-some row.child (sym h))

cons_empty : {A : Type 0} (x : A) (xs : List A) → x ∷ xs ≡ [] → ⊥
cons_empty x xs h = cc

some_row : (rows : List Row) (row : Row) → insert_row rows row ≡ [] → ⊥
some_row [] row h = cons_empty row [] h
some_row (first ∷ rows) row h =
    chosen (λ (rs : List Row). rs ≡ [] → ⊥) (is_lt (row_cmp first row)) (first ∷ insert_row rows row) (row ∷ first ∷ rows) (cons_empty first (insert_row rows row)) (cons_empty row (first ∷ rows)) h

none_in_order : (rows : List Row) → rows_in_order rows ≡ [] → rows ≡ []
none_in_order [] h = refl
none_in_order (row ∷ rows) h = absurd (some_row (rows_in_order rows) row h)

none_kept : (p : Entry → Bool) (x : Entry) (xs : List Entry) (t : Bool) → p x ≡ t → cond t (x ∷ filter p xs) (filter p xs) ≡ [] → (p x ≡ false) × (filter p xs ≡ [])
none_kept p x xs true e h = absurd (cons_empty x (filter p xs) h)
none_kept p x xs false e h = (e, h)

found_not : (p : Entry → Bool) (x e : Entry) (t : Bool) (o : Option Entry) → cond t (Some x) o ≡ Some e → p x ≡ false → (o ≡ Some e → p e ≡ false) → p e ≡ false
found_not p x e true o h first rest = ap p (sym (same_Some x e h)) ∙ first
found_not p x e false o h first rest = rest h

none_listed : (p : Entry → Bool) (es : List (FileId × Entry)) (child : FileId) (e : Entry) → filter p (values_of es) ≡ [] → entry_of es child ≡ Some e → p e ≡ false
none_listed p [] child e none h = absurd (none-some e h)
none_listed p (x ∷ es) child e none h =
    let k = none_kept p x.1 (values_of es) (p x.1) refl none in
    found_not p x.1 e (is_at (file_cmp child) x.0) (entry_of es child) h k.0 (λ g. none_listed p es child e k.1 g)

pub empty_by : (dir : FileId) (o : Option InodeValue) → first_child dir o ≡ None → (child : FileId) (e : Entry) → entry_in child o ≡ Some e → is_listed dir e ≡ false
empty_by dir None none child e h = absurd (none-some e h)
empty_by dir (Some x) none child e h =
    let rows = none_in_order (rows_of x.entries dir) (no_row (listing_of x.entries dir) none) in
    none_listed (is_listed dir) x.entries child e (map_empty (row_of x.entries dir) (children_of x.entries dir) rows) h
