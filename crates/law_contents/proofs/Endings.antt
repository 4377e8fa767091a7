-- What is found in notes behind a change, where something was found before it.
use Rattle.std.proofs.Common.{◌≡◌, ◌⊎◌, Bool, true, false, cond, None, Some, [], ◌∷◌, inl, inr, refl, sym, ap, subst, ◌∙◌, Less}
use Rattle.std.specs.BTreeMap.{insert_entry, is_at}
use Rattle.std.specs.List.{AllByRecursion, filter}
use Rattle.std.specs.Map.{keys_of, set_value}
use Rattle.std.specs.Ordering.{eq_by_cmp, is_eq}
use Rattle.std.proofs.lemmas.Map.{lookup-none}
use Rattle.std.proofs.lemmas.Map.Keys.{sorted_head, sorted_tail}
use Rattle.pg_run.specs.pg_announced.declared.announced.Announced.{Announced}
use Rattle.pg_run.specs.pg_announced.declared.announced.NoteKey.{NoteKey}
use Rattle.pg_run.specs.pg_announced.Announced.{AreSorted, NotesValue, change_note, changed, key_cmp, note_at, put_note, without_note}
use Rattle.pg_run.proofs.pg_announced.Keys.{key_exact, key_total}
use Rattle.pg_run.proofs.pg_base.Entries.{insert_there}
use Rattle.pg_run.proofs.pg_base.Maps.{lookup-insert_entry}
use Rattle.pg_run.proofs.pg_base.Orders.{is_eq-true}

pub pair_is : (q k : NoteKey) (n m : Announced) → q ≡ k → Some m ≡ Some n
    → ◌≡◌ {A = NoteKey × Announced} (q, n) (k, m)
pair_is q k n m key note =
    let same : m ≡ n = cc in λ i. (key i, sym same i)

-- ---- some notes end

module _ (p : NoteKey × Announced → Bool) where
  -- it stays, or is one of those that end
  abbrev pub StaysIn : NotesValue → NoteKey → Announced → Type 0
  StaysIn left q n = (note_at left q ≡ Some n) ⊎ (p (q, n) ≡ false)

  first_stays : (q : NoteKey) (n : Announced) (e : NoteKey × Announced) (es : NotesValue)
      (here keep : Bool) → is_at (key_cmp q) e.0 ≡ here → p e ≡ keep
      → (note_at es q ≡ Some n → StaysIn (filter p es) q n)
      → cond here (Some e.1) (note_at es q) ≡ Some n
      → StaysIn (cond keep (e ∷ filter p es) (filter p es)) q n
  first_stays q n e es true true at kept rest there =
      inl (ap (λ t. cond t (Some e.1) (note_at (filter p es) q)) at ∙ there)
  first_stays q n e es true false at gone rest there =
      inr (ap p (pair_is q e.0 n e.1 (key_exact q e.0 (is_eq-true (key_cmp q e.0) at)) there) ∙ gone)
  first_stays q n e es false true at kept rest there = elim (rest there) [
    | inl stays ↦ inl (ap (λ t. cond t (Some e.1) (note_at (filter p es) q)) at ∙ stays)
    | inr over ↦ inr over
  ]
  first_stays q n e es false false at gone rest there = rest there

  pub stays_or_ends : (notes : NotesValue) (q : NoteKey) (n : Announced)
      → note_at notes q ≡ Some n → StaysIn (filter p notes) q n
  stays_or_ends [] q n there = absurd (let z : None ≡ Some n = there in cc)
  stays_or_ends (e ∷ es) q n there =
      first_stays q n e es (is_at (key_cmp q) e.0) (p e) refl refl (stays_or_ends es q n) there

  -- and what stays is none of those that end
  first_found : (q : NoteKey) (n : Announced) (e : NoteKey × Announced) (es : NotesValue)
      (here keep : Bool) → is_at (key_cmp q) e.0 ≡ here → p e ≡ keep
      → (note_at (filter p es) q ≡ Some n → p (q, n) ≡ true)
      → note_at (cond keep (e ∷ filter p es) (filter p es)) q ≡ Some n → p (q, n) ≡ true
  first_found q n e es here false at gone rest there = rest there
  first_found q n e es true true at kept rest there =
      let first : Some e.1 ≡ Some n =
      sym (ap (λ t. cond t (Some e.1) (note_at (filter p es) q)) at) ∙ there in
      ap p (pair_is q e.0 n e.1 (key_exact q e.0 (is_eq-true (key_cmp q e.0) at)) first) ∙ kept
  first_found q n e es false true at kept rest there =
      rest (sym (ap (λ t. cond t (Some e.1) (note_at (filter p es) q)) at) ∙ there)

  pub found_stays : (notes : NotesValue) (q : NoteKey) (n : Announced)
      → note_at (filter p notes) q ≡ Some n → p (q, n) ≡ true
  found_stays [] q n there = absurd (let z : None ≡ Some n = there in cc)
  found_stays (e ∷ es) q n there =
      first_found q n e es (is_at (key_cmp q) e.0) (p e) refl refl (found_stays es q n) there

-- ---- one note ends

module _ (k : NoteKey) where
  first_left : (q : NoteKey) (n : Announced) (e : NoteKey × Announced) (es : NotesValue)
      (here gone : Bool) → is_at (key_cmp q) e.0 ≡ here → is_at (key_cmp k) e.0 ≡ gone
      → (note_at es q ≡ Some n → (note_at (without_note es k) q ≡ Some n) ⊎ (q ≡ k))
      → cond here (Some e.1) (note_at es q) ≡ Some n
      → (note_at (cond gone es (e ∷ without_note es k)) q ≡ Some n) ⊎ (q ≡ k)
  first_left q n e es true true at this rest there =
      inr (key_exact q e.0 (is_eq-true (key_cmp q e.0) at)
      ∙ sym (key_exact k e.0 (is_eq-true (key_cmp k e.0) this)))
  first_left q n e es false true at this rest there = inl there
  first_left q n e es true false at other rest there =
      inl (ap (λ t. cond t (Some e.1) (note_at (without_note es k) q)) at ∙ there)
  first_left q n e es false false at other rest there = elim (rest there) [
    | inl stays ↦ inl (ap (λ t. cond t (Some e.1) (note_at (without_note es k) q)) at ∙ stays)
    | inr same ↦ inr same
  ]

  -- another note stays
  pub others_stay : (notes : NotesValue) (q : NoteKey) (n : Announced)
      → note_at notes q ≡ Some n → (note_at (without_note notes k) q ≡ Some n) ⊎ (q ≡ k)
  others_stay [] q n there = absurd (let z : None ≡ Some n = there in cc)
  others_stay (e ∷ es) q n there =
      first_left q n e es (is_at (key_cmp q) e.0) (is_at (key_cmp k) e.0) refl refl
      (others_stay es q n) there

-- ---- one note is put, or changes

-- at its key this is found, and else what was
pub put_is : (notes : NotesValue) (k q : NoteKey) (n : Announced)
    → note_at (put_note notes k n) q ≡ cond (eq_by_cmp key_cmp q k) (Some n) (note_at notes q)
put_is notes k q n = lookup-insert_entry key_cmp key_total q k n notes

-- where something is noted, that is put in its place
pub change_is : (f : Announced → Announced) (notes : NotesValue) (k q : NoteKey) (n : Announced)
    → AreSorted notes → note_at notes k ≡ Some n
    → note_at (change_note f notes k) q
    ≡ cond (eq_by_cmp key_cmp q k) (Some (f n)) (note_at notes q)
change_is f notes k q n sorted there =
    let set : insert_entry key_cmp notes k (f n) ≡ set_value (is_at (key_cmp k)) notes (f n) =
    insert_there key_cmp key_total k n (f n) notes sorted there in
    ap (λ o. note_at (changed f notes k o) q) there
    ∙ ap (λ ns. note_at ns q) (sym set) ∙ put_is notes k q (f n)

-- ---- the note that ended is not found

none_above : (k : NoteKey) (es : NotesValue) → AllByRecursion (λ y. key_cmp k y ≡ Less) (keys_of es)
    → AllByRecursion (λ e. is_at (key_cmp k) e.0 ≡ false) es
none_above k [] h = tt
none_above k (e ∷ es) h = (ap is_eq h.0, none_above k es h.1)

module _ (k : NoteKey) where
  first_gone : (e : NoteKey × Announced) (es : NotesValue) (here : Bool) → AreSorted (e ∷ es)
      → is_at (key_cmp k) e.0 ≡ here → note_at (without_note es k) k ≡ None
      → note_at (cond here es (e ∷ without_note es k)) k ≡ None
  first_gone e es true sorted at rest =
      let same = key_exact k e.0 (is_eq-true (key_cmp k e.0) at) in
      let above = subst (λ q. AllByRecursion (λ y. key_cmp q y ≡ Less) (keys_of es)) (sym same)
      (sorted_head key_cmp e.0 (keys_of es) sorted) in
      lookup-none (is_at (key_cmp k)) es (none_above k es above)
  first_gone e es false sorted at rest =
      ap (λ t. cond t (Some e.1) (note_at (without_note es k) k)) at ∙ rest

  pub none_left : (notes : NotesValue) → AreSorted notes → note_at (without_note notes k) k ≡ None
  none_left [] sorted = refl
  none_left (e ∷ es) sorted =
      first_gone e es (is_at (key_cmp k) e.0) sorted refl
      (none_left es (sorted_tail key_cmp e.0 (keys_of es) sorted))
