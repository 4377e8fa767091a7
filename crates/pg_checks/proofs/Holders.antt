-- What has a cell for a thing; what has none is not the one whose cell has the latest place.
use Rattle.std.proofs.Common.{◌≡◌, Bool, true, false, cond, List, [], ◌∷◌, Option, None, Some, is_some, refl, sym, ap, ◌∙◌}
use Rattle.std.specs.List.{filter}
use Rattle.std.specs.Map.{keys_of}
use Rattle.std.proofs.lemmas.Bool.{false≢true}
use Rattle.pg_base.specs.declared.id.FileId.{FileId}
use Rattle.pg_entries.specs.declared.entry.Entry.{Entry}
use Rattle.pg_pieces.specs.pg_names.Names.{NamesValue, cell_at}
use Rattle.pg_pieces.specs.pg_names.Calm.{holders, is_cell, is_holder}
use Rattle.pg_checks.specs.Asking.{cell_in, is_later, later, latest}
use Rattle.pg_checks.specs.Listing.{dirs_of, has_cell_for, later_listing, lists_in}

not_later : (first second : Option Entry) → is_cell second ≡ false → is_later first second ≡ false
not_later first None h = refl
not_later first (Some e) h = absurd (false≢true (sym h))

module _ (s : NamesValue) (f : FileId) where
  skipped : (first : Option FileId) (d : FileId) → is_holder s f d ≡ false → later s f first d ≡ first
  skipped first d h = ap (λ t. cond t (Some d) first) (not_later (cell_in s f first) (cell_at s d f) h)

  latest_by : (first : Option FileId) (d : FileId) (ds : List FileId) (t : Bool) → is_holder s f d ≡ t → ((o : Option FileId) → latest s f o (filter (is_holder s f) ds) ≡ latest s f o ds)
      → latest s f first (cond t (d ∷ filter (is_holder s f) ds) (filter (is_holder s f) ds)) ≡ latest s f (later s f first d) ds
  latest_by first d ds true h rest = rest (later s f first d)
  latest_by first d ds false h rest = rest first ∙ sym (ap (λ o. latest s f o ds) (skipped first d h))

  latest_where : (first : Option FileId) (ds : List FileId) → latest s f first (filter (is_holder s f) ds) ≡ latest s f first ds
  latest_where first [] = refl
  latest_where first (d ∷ ds) = latest_by first d ds (is_holder s f d) refl (λ o. latest_where o ds)

  pub latest_holder : latest s f None (holders s f) ≡ latest s f None (keys_of s.held)
  latest_holder = latest_where None (keys_of s.held)

-- ---- the directories that have a cell for it

is_there : (o : Option Entry) → is_cell o ≡ is_some o
is_there None = refl
is_there (Some e) = refl

alike : (p q : FileId → Bool) → ((d : FileId) → p d ≡ q d) → (ds : List FileId) → filter p ds ≡ filter q ds
alike p q same [] = refl
alike p q same (d ∷ ds) =
    ap (λ t. cond t (d ∷ filter p ds) (filter p ds)) (same d) ∙ ap (λ xs. cond (q d) (d ∷ xs) xs) (alike p q same ds)

pub holders_are : (s : NamesValue) (id : FileId) (dirs : List FileId) → dirs ≡ holders s id → dirs ≡ dirs_of s id
holders_are s id dirs are = are ∙ alike (is_holder s id) (has_cell_for s id) (λ d. is_there (cell_at s d id)) (keys_of s.held)

-- ---- those that list it

-- one directory more
pub one_listing : (names : NamesValue) (id : FileId) (first : Option FileId) (dir : FileId) (rest : List FileId)
    → latest names id (later_listing names id first dir) (filter (lists_in names id) rest)
    ≡ latest names id first (filter (lists_in names id) (dir ∷ rest))
one_listing names id first dir rest = by (lists_in names id dir)
  where
    by : (t : Bool) → latest names id (cond t (later names id first dir) first) (filter (lists_in names id) rest)
        ≡ latest names id first (cond t (dir ∷ filter (lists_in names id) rest) (filter (lists_in names id) rest))
    by true = refl
    by false = refl
