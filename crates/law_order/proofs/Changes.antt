-- What a change of one thing leaves of what is held.
use Rattle.std.proofs.Common.{◌≡◌, Bool, true, false, Option, None, Some, refl, sym, ap, subst, ◌∙◌, inl, inr, ◌⊎◌}
use Rattle.std.specs.List.Sorted.{IsStrictlySortedBy}
use Rattle.std.specs.Map.{keys_of}
use Rattle.std.proofs.lemmas.Option.{same_Some}
use Rattle.law_frame.specs.pg_run.pg_base.declared.id.FileId.{FileId}
use Rattle.law_frame.specs.pg_run.pg_base.Id.{file_cmp, is_same_file}
use Rattle.law_frame.proofs.pg_run.pg_base.Orders.{is_same_file-true}
use Rattle.law_frame.specs.pg_run.pg_entries.declared.entry.Entry.{Entry}
use Rattle.law_frame.specs.pg_run.pg_names.declared.attributes.Attributes.{Attributes}
use Rattle.law_frame.specs.pg_run.pg_names.Names.{InodeValue, NamesValue, cell_at, known, own_at, set_entry, set_own, update, with_entry, with_own}
use Rattle.law_frame.proofs.pg_run.pg_names.Lookups.{entry_other_child, entry_other_dir, entry_same, known_absent, own_back, own_other, own_same}
use Rattle.law_frame.specs.pg_run.pg_house.Facts.{AreOrdered, IsHeld}
use Rattle.law_frame.proofs.pg_run.pg_house.Ordered.{changed_ordered}
use Rattle.law_frame.proofs.pg_run.theory_flood_pieces.Growth.{OneOwn}

-- ---- the own place and flags of one thing change

-- what is held stays held
pub one_stays : (s t : NamesValue) (f : FileId) (b c : Attributes) → OneOwn s t f b c → (q : FileId) → IsHeld s q → IsHeld t q
one_stays s t f b c k q h = at (is_same_file f q) refl
  where
    at : (u : Bool) → is_same_file f q ≡ u → IsHeld t q
    at true e = (c, ap (own_at t) (sym (is_same_file-true f q e)) ∙ k.is)
    at false e = (h.0, k.others q e ∙ h.1)

-- what holds of it and of all others before holds of all
pub one_own : (P : FileId → Attributes → Type 0) (s t : NamesValue) (f : FileId) (b c : Attributes) → OneOwn s t f b c → P f c → ((q : FileId) (o : Attributes) → own_at s q ≡ Some o → P q o) → (q : FileId) (o : Attributes) → own_at t q ≡ Some o → P q o
one_own P s t f b c k here there q o h = at (is_same_file f q) refl
  where
    at : (u : Bool) → is_same_file f q ≡ u → P q o
    at true e =
        let one : f ≡ q = is_same_file-true f q e in
        let is : c ≡ o = same_Some c o (sym k.is ∙ ap (own_at t) one ∙ h) in
        let Q : FileId → Type 0 = λ x. P x o in
        subst Q one (subst (P f) is here)
    at false e = there q o (sym (k.others q e) ∙ h)

-- ---- a write

-- of what is held behind a write, it is what was written or was held before
pub own_written : (s : NamesValue) (f : FileId) (c : Attributes) (q : FileId) (b : Attributes) → own_at (set_own s f c) q ≡ Some b → (own_at s q ≡ Some b) ⊎ ((q ≡ f) × (b ≡ c))
own_written s f c q b h = at (is_same_file f q) refl
  where
    at : (u : Bool) → is_same_file f q ≡ u → (own_at s q ≡ Some b) ⊎ ((q ≡ f) × (b ≡ c))
    at false e = inl (sym (own_other s f c q e) ∙ h)
    at true e =
        let one : f ≡ q = is_same_file-true f q e in
        let was = own_back s f (with_own c) q b h in
        let here : own_at s f ≡ Some was.0 = ap (own_at s) one ∙ was.1 in
        inr (sym one, same_Some b c (sym h ∙ ap (own_at (set_own s f c)) (sym one) ∙ own_same s f was.0 c here))

-- and of the cells
pub cell_written : (s : NamesValue) (d : FileId) (e : Entry) (q g : FileId) (c : Entry) → cell_at (set_entry s d e) q g ≡ Some c → (cell_at s q g ≡ Some c) ⊎ ((g ≡ e.child) × (c ≡ e))
cell_written s d e q g c h = at (is_same_file d q) (is_same_file g e.child) (own_at s d) refl refl refl
  where
    at : (t u : Bool) (o : Option Attributes) → is_same_file d q ≡ t → is_same_file g e.child ≡ u → own_at s d ≡ o → (cell_at s q g ≡ Some c) ⊎ ((g ≡ e.child) × (c ≡ e))
    at false u o apart i j = inl (sym (entry_other_dir s d e q g apart) ∙ h)
    at true false o same apart j = inl (sym (entry_other_child s d e q g apart) ∙ h)
    at true true None same child none = inl (ap (λ (x : NamesValue). cell_at x q g) (sym (known_absent s d (with_entry e) none)) ∙ h)
    at true true (Some b) same child held =
        let one : d ≡ q = is_same_file-true d q same in
        let two : g ≡ e.child = is_same_file-true g e.child child in
        inr (two, same_Some c e (sym h ∙ ap (cell_at (set_entry s d e) q) two ∙ ap (λ (x : FileId). cell_at (set_entry s d e) x e.child) (sym one) ∙ entry_same s d b e held))

-- ---- entries stay in order

-- where one directory changes and its own do
pub ordered_update : (s : NamesValue) (d : FileId) (change : InodeValue → InodeValue) → ((x : InodeValue) → IsStrictlySortedBy file_cmp (keys_of x.entries) → IsStrictlySortedBy file_cmp (keys_of (change x).entries)) → AreOrdered s → AreOrdered (update s d change)
ordered_update s d change keeps ordered = changed_ordered s d change keeps (known s d) refl ordered
