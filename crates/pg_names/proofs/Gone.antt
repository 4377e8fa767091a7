-- What is found in names when a thing is held no longer.
use Rattle.std.proofs.Common.{◌≡◌, Bool, true, false, cond, not, Option, None, Some, is_some, refl, sym, ap, ◌∙◌}
use Rattle.std.specs.BTreeMap.{is_at}
use Rattle.std.proofs.lemmas.Bool.{false≢true}
use Rattle.std.proofs.lemmas.Option.{none-some}
use Rattle.pg_base.specs.declared.id.FileId.{FileId}
use Rattle.pg_base.specs.Id.{file_cmp, is_same_file}
use Rattle.pg_base.proofs.Maps.{lookup-where_key}
use Rattle.pg_base.proofs.Orders.{file_exact, is_same_file-refl}
use Rattle.pg_entries.specs.declared.entry.Entry.{Entry}
use Rattle.pg_names.specs.declared.attributes.Attributes.{Attributes}
use Rattle.pg_names.specs.Names.{InodeValue, NamesValue, cell_at, entry_in, is_held, known, let_go, own_at, own_of}

module _ (s : NamesValue) (f : FileId) where
  pub gone_known : (q : FileId) → known (let_go s f) q ≡ cond (not (is_same_file f q)) (known s q) None
  gone_known q =
      lookup-where_key file_cmp (λ k. not (is_at (file_cmp f) k)) q
      (λ x e. ap (λ k. not (is_at (file_cmp f) k)) (sym (file_exact q x e))) s.held

  pub gone_same : known (let_go s f) f ≡ None
  gone_same = gone_known f ∙ ap (λ b. cond (not b) (known s f) None) (is_same_file-refl f)

  -- all others are as they were
  pub gone_other : (q : FileId) → is_same_file f q ≡ false → known (let_go s f) q ≡ known s q
  gone_other q apart = gone_known q ∙ ap (λ b. cond (not b) (known s q) None) apart

  pub gone_own_other : (q : FileId) → is_same_file f q ≡ false → own_at (let_go s f) q ≡ own_at s q
  gone_own_other q apart = ap own_of (gone_other q apart)

  pub gone_cell_other : (q g : FileId) → is_same_file f q ≡ false → cell_at (let_go s f) q g ≡ cell_at s q g
  gone_cell_other q g apart = ap (entry_in g) (gone_other q apart)

  -- what is found then is of another, and was found before
  stayed : (q : FileId) (x : InodeValue) (t : Bool) → is_same_file f q ≡ t → cond (not t) (known s q) None ≡ Some x
      → (is_same_file f q ≡ false) × (known s q ≡ Some x)
  stayed q x false apart h = (apart, h)
  stayed q x true same h = absurd (none-some x h)

  pub gone_stayed : (q : FileId) (x : InodeValue) → known (let_go s f) q ≡ Some x → (is_same_file f q ≡ false) × (known s q ≡ Some x)
  gone_stayed q x h = stayed q x (is_same_file f q) refl (sym (gone_known q) ∙ h)

  own_stayed : (q : FileId) (b : Attributes) (t : Bool) → is_same_file f q ≡ t → own_of (cond (not t) (known s q) None) ≡ Some b
      → (is_same_file f q ≡ false) × (own_at s q ≡ Some b)
  own_stayed q b false apart h = (apart, h)
  own_stayed q b true same h = absurd (none-some b h)

  pub gone_own : (q : FileId) (b : Attributes) → own_at (let_go s f) q ≡ Some b → (is_same_file f q ≡ false) × (own_at s q ≡ Some b)
  gone_own q b h = own_stayed q b (is_same_file f q) refl (sym (ap own_of (gone_known q)) ∙ h)

  cell_stayed : (q g : FileId) (e : Entry) (t : Bool) → is_same_file f q ≡ t → entry_in g (cond (not t) (known s q) None) ≡ Some e
      → (is_same_file f q ≡ false) × (cell_at s q g ≡ Some e)
  cell_stayed q g e false apart h = (apart, h)
  cell_stayed q g e true same h = absurd (none-some e h)

  pub gone_cell : (q g : FileId) (e : Entry) → cell_at (let_go s f) q g ≡ Some e → (is_same_file f q ≡ false) × (cell_at s q g ≡ Some e)
  gone_cell q g e h = cell_stayed q g e (is_same_file f q) refl (sym (ap (entry_in g) (gone_known q)) ∙ h)

  held_stayed : (q : FileId) (t : Bool) → is_same_file f q ≡ t → is_some (cond (not t) (known s q) None) ≡ true
      → (is_same_file f q ≡ false) × (is_held s q ≡ true)
  held_stayed q false apart h = (apart, h)
  held_stayed q true same h = absurd (false≢true h)

  pub gone_held : (q : FileId) → is_held (let_go s f) q ≡ true → (is_same_file f q ≡ false) × (is_held s q ≡ true)
  gone_held q h = held_stayed q (is_same_file f q) refl (sym (ap (λ (o : Option InodeValue). is_some o) (gone_known q)) ∙ h)

  away_stayed : (q : FileId) (t : Bool) → is_held s q ≡ false → is_some (cond (not t) (known s q) None) ≡ false
  away_stayed q false h = h
  away_stayed q true h = refl

  pub gone_away : (q : FileId) → is_held s q ≡ false → is_held (let_go s f) q ≡ false
  gone_away q h = ap (λ (o : Option InodeValue). is_some o) (gone_known q) ∙ away_stayed q (is_same_file f q) h
