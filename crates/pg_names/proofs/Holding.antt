-- What is found in names after one thing more is held, or a held thing is full.
use Rattle.std.proofs.Common.{◌≡◌, Bool, true, false, cond, Option, None, Some, refl, sym, ap, ◌∙◌}
use Rattle.std.proofs.lemmas.Option.{none-some}
use Rattle.pg_base.specs.declared.id.FileId.{FileId}
use Rattle.pg_base.specs.Id.{file_cmp, is_same_file}
use Rattle.pg_base.proofs.Orders.{file_total, is_same_file-true, is_same_file-refl}
use Rattle.pg_base.proofs.Maps.{lookup-insert_entry}
use Rattle.pg_names.specs.declared.attributes.Attributes.{Attributes}
use Rattle.pg_names.specs.Names.{InodeValue, NamesValue, begin, cell_at, changed, entry_in, fill, filled, is_full, is_full_of, known, new_held, own_at, update}
use Rattle.pg_names.proofs.Lookups.{cells_kept, known_held, known_other, known_same, own_kept}

module _ (s : NamesValue) (f : FileId) (own : Attributes) (full : Bool) where
  -- what is held of a thing, after one began
  pub begun_known : (q : FileId) → known (begin s f own full) q ≡ cond (is_same_file q f) (Some (new_held own full)) (known s q)
  begun_known q = lookup-insert_entry file_cmp file_total q f (new_held own full) s.held

  -- it is held, with its place and flags
  pub begun_same : known (begin s f own full) f ≡ Some (new_held own full)
  begun_same = begun_known f ∙ ap (λ b. cond b (Some (new_held own full)) (known s f)) (is_same_file-refl f)

  -- of every other thing the same is held
  pub begun_other : (q : FileId) → is_same_file q f ≡ false → known (begin s f own full) q ≡ known s q
  begun_other q apart = begun_known q ∙ ap (λ b. cond b (Some (new_held own full)) (known s q)) apart

  -- where it was not held before, what was held is held as it was
  stays_by : (q : FileId) (x : InodeValue) (t : Bool) → known s f ≡ None → is_same_file q f ≡ t → known s q ≡ Some x → cond t (Some (new_held own full)) (known s q) ≡ Some x
  stays_by q x false none e h = h
  stays_by q x true none e h = absurd (none-some x (sym none ∙ ap (known s) (sym (is_same_file-true q f e)) ∙ h))

  pub begun_stays : known s f ≡ None → (q : FileId) (x : InodeValue) → known s q ≡ Some x → known (begin s f own full) q ≡ Some x
  begun_stays none q x h = begun_known q ∙ stays_by q x (is_same_file q f) none refl h

  -- and no cell changes
  cell_at_by : (q g : FileId) (t : Bool) → known s f ≡ None → is_same_file q f ≡ t → entry_in g (cond t (Some (new_held own full)) (known s q)) ≡ cell_at s q g
  cell_at_by q g false none e = refl
  cell_at_by q g true none e = sym (ap (entry_in g) none) ∙ ap (λ k. cell_at s k g) (sym (is_same_file-true q f e))

  pub begun_cells : known s f ≡ None → (q g : FileId) → cell_at (begin s f own full) q g ≡ cell_at s q g
  begun_cells none q g = ap (entry_in g) (begun_known q) ∙ cell_at_by q g (is_same_file q f) none refl

-- ---- a held thing is full

module _ (s : NamesValue) (f : FileId) where
  pub fill_own : (q : FileId) → own_at (fill s f) q ≡ own_at s q
  fill_own q = own_kept s f filled (λ x. refl) q

  pub fill_cells : (q g : FileId) → cell_at (fill s f) q g ≡ cell_at s q g
  fill_cells q g = cells_kept s f filled (λ x. refl) q g

  pub fill_same : (x : InodeValue) → known s f ≡ Some x → is_full (fill s f) f ≡ true
  fill_same x h = ap is_full_of (known_same s f filled x h)

  pub fill_other : (q : FileId) → is_same_file f q ≡ false → is_full (fill s f) q ≡ is_full s q
  fill_other q apart = ap is_full_of (known_other s f filled q apart)

-- ---- a change that leaves what is full

module _ (s : NamesValue) (f : FileId) (change : InodeValue → InodeValue) (keeps : (x : InodeValue) → (change x).full ≡ x.full) where
  full_at : (x : InodeValue) (q : FileId) (t : Bool) → known s f ≡ Some x → is_same_file f q ≡ t → is_full_of (cond t (Some (change x)) (known s q)) ≡ is_full s q
  full_at x q false h e = refl
  full_at x q true h e = keeps x ∙ ap is_full_of (sym h) ∙ ap (is_full s) (is_same_file-true f q e)

  full_by : (o : Option InodeValue) (q : FileId) → known s f ≡ o → is_full (changed s f change o) q ≡ is_full s q
  full_by None q h = refl
  full_by (Some x) q h = ap is_full_of (known_held s f x (change x) q h) ∙ full_at x q (is_same_file f q) h refl

  pub full_kept : (q : FileId) → is_full (update s f change) q ≡ is_full s q
  full_kept q = full_by (known s f) q refl
