-- What is found in notes behind a change: what was found, or what the change put there.
use Rattle.std.proofs.Common.{◌≡◌, ◌⊎◌, Bool, true, false, cond, Option, None, Some, [], ◌∷◌, inl, inr, refl, sym, ap, subst, ◌∙◌, Less}
use Rattle.std.specs.BTreeMap.{insert_entry, is_at}
use Rattle.std.specs.List.{AllByRecursion, filter}
use Rattle.std.specs.Map.{keys_of, set_value}
use Rattle.std.specs.Option.{option_map}
use Rattle.std.specs.Ordering.{eq_by_cmp, is_eq}
use Rattle.std.proofs.lemmas.Map.{lookup-none}
use Rattle.std.proofs.lemmas.Map.Keys.{sorted_head, sorted_tail}
use Rattle.std.proofs.lemmas.Map.Made.{lookup-map_values}
use Rattle.pg_base.proofs.Entries.{insert_there}
use Rattle.pg_base.proofs.Maps.{lookup-insert_entry}
use Rattle.pg_base.proofs.Orders.{is_eq-true}
use Rattle.pg_announced.specs.declared.announced.Announced.{Announced}
use Rattle.pg_announced.specs.declared.announced.NoteKey.{NoteKey}
use Rattle.pg_announced.specs.Announced.{AreSorted, NotesValue, change_note, changed, key_cmp, note_at, put_note, released, unasked, without_note}
use Rattle.pg_announced.proofs.Keys.{key_exact, key_total}

pub same_note : (x y : Announced) → Some x ≡ Some y → x ≡ y
same_note x y e = cc

-- ---- behind a note that was put

put_by : (t : Bool) (q k : NoteKey) (n m : Announced) (o : Option Announced) → eq_by_cmp key_cmp q k ≡ t → cond t (Some n) o ≡ Some m
    → ((q ≡ k) × (m ≡ n)) ⊎ (o ≡ Some m)
put_by true q k n m o here e = inl (key_exact q k (is_eq-true (key_cmp q k) here), sym (same_note n m e))
put_by false q k n m o here e = inr e

pub put_found : (notes : NotesValue) (k q : NoteKey) (n m : Announced) → note_at (put_note notes k n) q ≡ Some m
    → ((q ≡ k) × (m ≡ n)) ⊎ (note_at notes q ≡ Some m)
put_found notes k q n m e =
    put_by (eq_by_cmp key_cmp q k) q k n m (note_at notes q) refl (sym (lookup-insert_entry key_cmp key_total q k n notes) ∙ e)

-- ---- behind a note that changed

abbrev pub IsChanged : (Announced → Announced) → NotesValue → NoteKey → NoteKey → Announced → Type 0
IsChanged f notes k q m =
    ((q ≡ k) × (n : Announced) × (note_at notes k ≡ Some n) × (m ≡ f n)) ⊎ (note_at notes q ≡ Some m)

changed_by : (f : Announced → Announced) (notes : NotesValue) (k q : NoteKey) (m : Announced) → AreSorted notes
    → (o : Option Announced) → note_at notes k ≡ o → note_at (changed f notes k o) q ≡ Some m → IsChanged f notes k q m
changed_by f notes k q m sorted None there e = inr e
changed_by f notes k q m sorted (Some n) there e =
    let is : insert_entry key_cmp notes k (f n) ≡ set_value (is_at (key_cmp k)) notes (f n) =
    insert_there key_cmp key_total k n (f n) notes sorted there in
    elim (put_found notes k q (f n) m (ap (λ ns. note_at ns q) is ∙ e)) [
      | inl here ↦ inl (here.0, n, there, here.1)
      | inr old ↦ inr old
    ]

pub changed_found : (f : Announced → Announced) (notes : NotesValue) (k q : NoteKey) (m : Announced) → AreSorted notes
    → note_at (change_note f notes k) q ≡ Some m → IsChanged f notes k q m
changed_found f notes k q m sorted e = changed_by f notes k q m sorted (note_at notes k) refl e

-- ---- behind a tick

released_by : (o : Option Announced) (m : Announced) → option_map unasked o ≡ Some m
    → (n : Announced) × (o ≡ Some n) × (m ≡ unasked n)
released_by None m e = absurd (let x : None ≡ Some m = e in cc)
released_by (Some n) m e = (n, refl, sym (same_note (unasked n) m e))

pub released_found : (notes : NotesValue) (q : NoteKey) (m : Announced) → note_at (released notes) q ≡ Some m
    → (n : Announced) × (note_at notes q ≡ Some n) × (m ≡ unasked n)
released_found notes q m e =
    released_by (note_at notes q) m (sym (lookup-map_values unasked (is_at (key_cmp q)) notes) ∙ e)

-- ---- where notes end: no other note is found than before

none_above : (k : NoteKey) (es : NotesValue) → AllByRecursion (λ y. key_cmp k y ≡ Less) (keys_of es)
    → AllByRecursion (λ e. is_at (key_cmp k) e.0 ≡ false) es
none_above k [] h = tt
none_above k (e ∷ es) h = (ap is_eq h.0, none_above k es h.1)

-- a note that is found behind the first one, which went, has another key
behind_first : (q : NoteKey) (m : Announced) (e : NoteKey × Announced) (es : NotesValue) (t : Bool) → AreSorted (e ∷ es)
    → is_at (key_cmp q) e.0 ≡ t → note_at es q ≡ Some m → cond t (Some e.1) (note_at es q) ≡ Some m
behind_first q m e es false sorted other there = there
behind_first q m e es true sorted here there =
    let same = key_exact q e.0 (is_eq-true (key_cmp q e.0) here) in
    let above = subst (λ k. AllByRecursion (λ y. key_cmp k y ≡ Less) (keys_of es)) (sym same) (sorted_head key_cmp e.0 (keys_of es) sorted) in
    absurd (let none : None ≡ Some m = sym (lookup-none (is_at (key_cmp q)) es (none_above q es above)) ∙ there in cc)

kept_first : (q : NoteKey) (m : Announced) (e : NoteKey × Announced) (es left : NotesValue) (t : Bool)
    → (note_at left q ≡ Some m → note_at es q ≡ Some m) → cond t (Some e.1) (note_at left q) ≡ Some m
    → cond t (Some e.1) (note_at es q) ≡ Some m
kept_first q m e es left true rest there = there
kept_first q m e es left false rest there = rest there

without_by : (k q : NoteKey) (m : Announced) (e : NoteKey × Announced) (es : NotesValue) (t : Bool) → AreSorted (e ∷ es)
    → (note_at (without_note es k) q ≡ Some m → note_at es q ≡ Some m) → note_at (cond t es (e ∷ without_note es k)) q ≡ Some m
    → note_at (e ∷ es) q ≡ Some m
without_by k q m e es true sorted rest there = behind_first q m e es (is_at (key_cmp q) e.0) sorted refl there
without_by k q m e es false sorted rest there = kept_first q m e es (without_note es k) (is_at (key_cmp q) e.0) rest there

pub without_found : (notes : NotesValue) (k q : NoteKey) (m : Announced) → AreSorted notes → note_at (without_note notes k) q ≡ Some m
    → note_at notes q ≡ Some m
without_found [] k q m sorted there = there
without_found (e ∷ es) k q m sorted there =
    without_by k q m e es (is_at (key_cmp k) e.0) sorted (without_found es k q m (sorted_tail key_cmp e.0 (keys_of es) sorted)) there

module _ (p : NoteKey × Announced → Bool) where
  kept_by : (q : NoteKey) (m : Announced) (e : NoteKey × Announced) (es : NotesValue) (t : Bool) → AreSorted (e ∷ es)
      → (note_at (filter p es) q ≡ Some m → note_at es q ≡ Some m) → note_at (cond t (e ∷ filter p es) (filter p es)) q ≡ Some m
      → note_at (e ∷ es) q ≡ Some m
  kept_by q m e es true sorted rest there = kept_first q m e es (filter p es) (is_at (key_cmp q) e.0) rest there
  kept_by q m e es false sorted rest there = behind_first q m e es (is_at (key_cmp q) e.0) sorted refl (rest there)

  pub kept_found : (notes : NotesValue) (q : NoteKey) (m : Announced) → AreSorted notes → note_at (filter p notes) q ≡ Some m
      → note_at notes q ≡ Some m
  kept_found [] q m sorted there = there
  kept_found (e ∷ es) q m sorted there =
      kept_by q m e es (p e) sorted (kept_found es q m (sorted_tail key_cmp e.0 (keys_of es) sorted)) there
