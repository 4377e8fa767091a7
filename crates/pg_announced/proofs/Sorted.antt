-- Notes go by their keys: where some of them change or end, the others stay in order.
use Rattle.std.proofs.Common.{ℕ, ◌≡◌, Bool, true, false, cond, Option, None, Some, [], ◌∷◌, refl, sym, subst, ap, ◌∙◌, Less}
use Rattle.std.specs.declared.cmp.Ordering.{Ordering}
use Rattle.std.specs.BTreeMap.{is_at}
use Rattle.std.specs.List.{AllByRecursion, filter}
use Rattle.std.specs.List.Sorted.{IsStrictlySortedBy}
use Rattle.std.specs.Map.{keys_of, set_value}
use Rattle.std.proofs.lemmas.Map.{keys-set_value}
use Rattle.pg_base.proofs.Entries.{IsStrictlySortedBy-insert_entry}
use Rattle.pg_announced.specs.declared.announced.Announced.{Announced}
use Rattle.pg_announced.specs.declared.announced.NoteKey.{NoteKey}
use Rattle.pg_announced.specs.Announced.{AreSorted, NotesValue, change_note, changed, is_asked_of, key_cmp, lose_note, note_at, put_note, released, unasked, without_note}
use Rattle.pg_announced.proofs.Keys.{key_total}

pub sorted_none : (notes : NotesValue) → notes ≡ [] → AreSorted notes
unfolding IsStrictlySortedBy
sorted_none notes none = subst AreSorted (sym none) tt

pub sorted_by : (R : NoteKey → NoteKey → Ordering) → R ≡ key_cmp → (notes : NotesValue) → IsStrictlySortedBy R (keys_of notes)
    → AreSorted notes
sorted_by R e notes sorted =
    let S : (NoteKey → NoteKey → Ordering) → Type 0 = λ r. IsStrictlySortedBy r (keys_of notes) in
    subst S e sorted

pub sorted_set : (R : NoteKey → NoteKey → Ordering) → R ≡ key_cmp → (old new : NotesValue) (k : NoteKey) (w : Announced)
    → AreSorted old → new ≡ set_value (is_at (R k)) old w → AreSorted new
sorted_set R e old new k w sorted set =
    subst (IsStrictlySortedBy key_cmp) (sym (ap (λ (ns : NotesValue). keys_of ns) set ∙ keys-set_value (is_at (R k)) old w)) sorted

-- ---- by the definitions

pub sorted_put : (notes : NotesValue) (k : NoteKey) (n : Announced) → AreSorted notes → AreSorted (put_note notes k n)
sorted_put notes k n sorted = IsStrictlySortedBy-insert_entry key_cmp key_total k n notes sorted

sorted_changed : (f : Announced → Announced) (notes : NotesValue) (k : NoteKey) (o : Option Announced) → AreSorted notes
    → AreSorted (changed f notes k o)
sorted_changed f notes k None sorted = sorted
sorted_changed f notes k (Some n) sorted = sorted_set key_cmp refl notes (changed f notes k (Some n)) k (f n) sorted refl

pub sorted_change : (f : Announced → Announced) (notes : NotesValue) (k : NoteKey) → AreSorted notes → AreSorted (change_note f notes k)
sorted_change f notes k sorted = sorted_changed f notes k (note_at notes k) sorted

sorted_if : (t : Bool) (old new : NotesValue) → AreSorted old → AreSorted new → AreSorted (cond t new old)
sorted_if true old new before behind = behind
sorted_if false old new before behind = before

pub sorted_lose : (notes : NotesValue) (k : NoteKey) (from : ℕ) → AreSorted notes → AreSorted (lose_note notes k from)
sorted_lose notes k from sorted =
    sorted_if (is_asked_of from (note_at notes k)) notes (change_note unasked notes k) sorted (sorted_change unasked notes k sorted)

released_keys : (notes : NotesValue) → keys_of (released notes) ≡ keys_of notes
released_keys [] = refl
released_keys (e ∷ es) = ap (λ ks. e.0 ∷ ks) (released_keys es)

pub sorted_released : (notes : NotesValue) → AreSorted notes → AreSorted (released notes)
sorted_released notes sorted = subst (IsStrictlySortedBy key_cmp) (sym (released_keys notes)) sorted

-- ---- where notes end

above_by : (k : NoteKey) (e : NoteKey × Announced) (es : NotesValue) (t : Bool) → key_cmp k e.0 ≡ Less
    → AllByRecursion (λ y. key_cmp k y ≡ Less) (keys_of es)
    → AllByRecursion (λ y. key_cmp k y ≡ Less) (keys_of (cond t (e ∷ es) es))
above_by k e es true first rest = (first, rest)
above_by k e es false first rest = rest

sorted_first : (e : NoteKey × Announced) (es : NotesValue) (t : Bool) → AllByRecursion (λ y. key_cmp e.0 y ≡ Less) (keys_of es)
    → AreSorted es → AreSorted (cond t (e ∷ es) es)
unfolding IsStrictlySortedBy
sorted_first e es true above rest = (above, rest)
sorted_first e es false above rest = rest

module _ (p : NoteKey × Announced → Bool) where
  above_kept : (k : NoteKey) (es : NotesValue) → AllByRecursion (λ y. key_cmp k y ≡ Less) (keys_of es)
      → AllByRecursion (λ y. key_cmp k y ≡ Less) (keys_of (filter p es))
  above_kept k [] h = h
  above_kept k (e ∷ es) h = above_by k e (filter p es) (p e) h.0 (above_kept k es h.1)

  pub sorted_kept : (notes : NotesValue) → AreSorted notes → AreSorted (filter p notes)
  unfolding IsStrictlySortedBy
  sorted_kept [] h = h
  sorted_kept (e ∷ es) h = sorted_first e (filter p es) (p e) (above_kept e.0 es h.0) (sorted_kept es h.1)

module _ (k : NoteKey) where
  above_gone : (q : NoteKey) (e : NoteKey × Announced) (es left : NotesValue) (t : Bool) → key_cmp q e.0 ≡ Less
      → AllByRecursion (λ y. key_cmp q y ≡ Less) (keys_of es) → AllByRecursion (λ y. key_cmp q y ≡ Less) (keys_of left)
      → AllByRecursion (λ y. key_cmp q y ≡ Less) (keys_of (cond t es (e ∷ left)))
  above_gone q e es left true first all rest = all
  above_gone q e es left false first all rest = (first, rest)

  above_without : (q : NoteKey) (es : NotesValue) → AllByRecursion (λ y. key_cmp q y ≡ Less) (keys_of es)
      → AllByRecursion (λ y. key_cmp q y ≡ Less) (keys_of (without_note es k))
  above_without q [] h = h
  above_without q (e ∷ es) h = above_gone q e es (without_note es k) (is_at (key_cmp k) e.0) h.0 h.1 (above_without q es h.1)

  sorted_gone : (e : NoteKey × Announced) (es left : NotesValue) (t : Bool) → AllByRecursion (λ y. key_cmp e.0 y ≡ Less) (keys_of left)
      → AreSorted es → AreSorted left → AreSorted (cond t es (e ∷ left))
  unfolding IsStrictlySortedBy
  sorted_gone e es left true above all rest = all
  sorted_gone e es left false above all rest = (above, rest)

  pub sorted_without : (notes : NotesValue) → AreSorted notes → AreSorted (without_note notes k)
  unfolding IsStrictlySortedBy
  sorted_without [] h = h
  sorted_without (e ∷ es) h =
      sorted_gone e es (without_note es k) (is_at (key_cmp k) e.0) (above_without e.0 es h.0) h.1 (sorted_without es h.1)
