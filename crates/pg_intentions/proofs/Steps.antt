-- Loops: slots, and a piece for each of a list.
use Rattle.std.proofs.Common.{◌≡◌, ℕ, ◌+◌, ◌<◌, ◌≤◌, ◌++◌, drop, get_or, length, List, ◌∷◌, Option, sym, ap, subst, ◌∙◌, append-nil, append_assoc, inl, inr, arith}
use Rattle.std.specs.declared.cmp.Ordering.{Ordering}
use Rattle.std.specs.BTreeMap.{insert_entry}
use Rattle.std.specs.List.{flat_map, slice_get}
use Rattle.std.proofs.lemmas.List.{at_drop_more, drop_all, drop_more}
use Rattle.std.proofs.lemmas.Option.{slice_get_cases}
use Rattle.pg_graph.specs.pg_msg.declared.work.Slot.{Slot}
use Rattle.pg_graph.specs.pg_msg.Work.{slot_cmp}
use Rattle.pg_intentions.specs.Intending.{Slots, add_slots, pieces}

-- ---- slots

-- one slot more. R is the derived order of slots, which is theirs
pub one_slot : (R : Slot → Slot → Ordering) → R ≡ slot_cmp → (slots new : Slots) (ss : List Slot) (i : ℕ) (d : Slot) (r : Slots) → i < length ss
    → new ≡ insert_entry R slots (get_or ss i d) tt → add_slots slots (drop i ss) ≡ r → add_slots new (drop (i + 1) ss) ≡ r
one_slot R same slots new ss i d r lt made left =
    let rest = drop (i + 1) ss in
    ap (λ (m : Slots). add_slots m rest) made
    ∙ ap (λ (o : Slot → Slot → Ordering). add_slots (insert_entry o slots (get_or ss i d) tt) rest) same
    ∙ sym (at_drop_more (add_slots slots) ss i d lt) ∙ left

-- ---- a piece for each of a list, read by its index

-- what stands at an index is the first of what is left from there
pub drop_found : {A : Type 0} (xs : List A) (k : ℕ) (x : A) → k < length xs → get_or xs k x ≡ x → drop k xs ≡ x ∷ drop (k + 1) xs
drop_found xs k x lt is = drop_more xs k x lt ∙ ap (λ y. y ∷ drop (k + 1) xs) is

one_found : {A B : Type 0} (f : A → List B) (xs : List A) (k : ℕ) (ys new r : List B) (x : A) → drop k xs ≡ x ∷ drop (k + 1) xs
    → new ≡ ys ++ f x → ys ++ flat_map f (drop k xs) ≡ r → new ++ flat_map f (drop (k + 1) xs) ≡ r
one_found {A} {B} f xs k ys new r x is made left =
    ap (λ (l : List B). l ++ flat_map f (drop (k + 1) xs)) made
    ∙ append_assoc ys (f x) (flat_map f (drop (k + 1) xs))
    ∙ sym (ap (λ (l : List A). ys ++ flat_map f l) is) ∙ left

-- one piece more
pub one_piece : {A B : Type 0} (f : A → List B) (xs : List A) (k n : ℕ) (ys new r : List B) → n ≡ length xs → k < n
    → new ≡ ys ++ pieces f (slice_get xs k) → ys ++ flat_map f (drop k xs) ≡ r → new ++ flat_map f (drop (k + 1) xs) ≡ r
one_piece {A} {B} f xs k n ys new r count lt made left =
    elim (slice_get_cases xs k).1 [
      | inl there ↦ one_found f xs k ys new r there.0 (drop_found xs k there.0 there.1 there.3)
          (made ∙ ap (λ (o : Option A). ys ++ pieces f o) there.2) left
      | inr past ↦ absurd (omega (arith, count, lt, past.0))
    ]

-- all pieces
pub all_pieces : {A B : Type 0} (f : A → List B) (xs : List A) (k n : ℕ) (ys r : List B) → n ≡ length xs → n ≤ k
    → ys ++ flat_map f (drop k xs) ≡ r → ys ≡ r
all_pieces {A} {B} f xs k n ys r count le left =
    sym (append-nil ys)
    ∙ sym (ap (λ (l : List A). ys ++ flat_map f l) (drop_all k xs (subst (λ (m : ℕ). m ≤ k) count le))) ∙ left
