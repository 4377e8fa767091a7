-- Slots that are noted are gone through.
use Rattle.std.proofs.Common.{◌≡◌, ◌&&◌, ◌||◌, Bool, true, false, cond, List, [], ◌∷◌, Option, Some, is_some, Less, Equal, Greater, refl, sym, ap, subst, ◌∙◌, inl, inr, ◌⊎◌}
use Rattle.std.specs.declared.cmp.Ordering.{Ordering}
use Rattle.std.specs.Cmp.{tied_itself}
use Rattle.std.specs.Ordering.{eq_by_cmp, is_eq, ordering_then}
use Rattle.std.specs.List.{list_any}
use Rattle.std.specs.BTreeMap.{insert_entry, is_at}
use Rattle.std.specs.Map.{keys_of, lookup}
use Rattle.std.proofs.lemmas.Bool.{false≢true, or_left, or_right}
use Rattle.pg_run.specs.pg_base.Id.{file_cmp}
use Rattle.pg_run.proofs.pg_base.Maps.{lookup-insert_entry}
use Rattle.pg_run.specs.pg_house.Facts.{IsOneOf}
use Rattle.pg_run.specs.pg_msg.declared.work.Slot.{Slot}
use Rattle.pg_run.specs.pg_msg.Work.{slot_cmp}
use Rattle.pg_run.proofs.pg_msg.Slots.{slot_total}
use Rattle.pg_run.specs.pg_intentions.Intending.{Slots, add_slots, in_order}
use Rattle.pg_run.specs.pg_intentions.Patches.{is_slot}

-- two orderings, one behind the other, are equal where both are
both_equal : (o p : Ordering) → is_eq (ordering_then o p) ≡ (is_eq o && is_eq p)
both_equal Less p = refl
both_equal Greater p = refl
both_equal Equal Less = refl
both_equal Equal Equal = refl
both_equal Equal Greater = refl

abbrev Has : Slot → Slots → Type 0
Has s es = is_some (lookup (is_at (slot_cmp s)) es) ≡ true

added_by : (t : Bool) (o : Option (Unit {0})) → is_some o ≡ true → is_some (cond t (Some (tt {0})) o) ≡ true
added_by true o h = refl
added_by false o h = h

added_old : (s k : Slot) (es : Slots) → Has s es → Has s (insert_entry slot_cmp es k tt)
added_old s k es h = ap is_some (lookup-insert_entry slot_cmp slot_total s k tt es) ∙ added_by (eq_by_cmp slot_cmp s k) (lookup (is_at (slot_cmp s)) es) h

added_new : (s : Slot) (es : Slots) → Has s (insert_entry slot_cmp es s tt)
added_new s es =
    ap is_some (lookup-insert_entry slot_cmp slot_total s s tt es)
    ∙ ap (λ t. is_some (cond t (Some (tt {0})) (lookup (is_at (slot_cmp s)) es))) (ap is_eq (tied_itself slot_total s))

all_added : (ss : List Slot) (es : Slots) (s : Slot) → IsOneOf s ss ⊎ Has s es → Has s (add_slots es ss)
all_added [] es s (inl none) = absurd none
all_added [] es s (inr has) = has
all_added (k ∷ ss) es s (inl (inl same)) =
    all_added ss (insert_entry slot_cmp es k tt) s (inr (subst (λ (x : Slot). Has s (insert_entry slot_cmp es x tt)) (sym same) (added_new s es)))
all_added (k ∷ ss) es s (inl (inr more)) = all_added ss (insert_entry slot_cmp es k tt) s (inl more)
all_added (k ∷ ss) es s (inr has) = all_added ss (insert_entry slot_cmp es k tt) s (inr (added_old s k es has))

listed_by : (s : Slot) (e : Slot × Unit {0}) (es : Slots) (t : Bool) → is_at (slot_cmp s) e.0 ≡ t → (Has s es → list_any (is_slot s.dir s.child) (keys_of es) ≡ true)
    → is_some (cond t (Some e.1) (lookup (is_at (slot_cmp s)) es)) ≡ true → (is_slot s.dir s.child e.0 || list_any (is_slot s.dir s.child) (keys_of es)) ≡ true
listed_by s e es true is rest h =
    or_left (is_slot s.dir s.child e.0) (list_any (is_slot s.dir s.child) (keys_of es)) (sym (both_equal (file_cmp s.dir e.0.dir) (file_cmp s.child e.0.child)) ∙ is)
listed_by s e es false is rest h = or_right (is_slot s.dir s.child e.0) (list_any (is_slot s.dir s.child) (keys_of es)) (rest h)

listed : (s : Slot) (es : Slots) → Has s es → list_any (is_slot s.dir s.child) (keys_of es) ≡ true
listed s [] h = absurd (false≢true h)
listed s (e ∷ es) h = listed_by s e es (is_at (slot_cmp s) e.0) refl (listed s es) h

-- each that is noted is gone through
pub gone_through : (s : Slot) (ss : List Slot) → IsOneOf s ss → list_any (is_slot s.dir s.child) (in_order ss) ≡ true
gone_through s ss h = listed s (add_slots [] ss) (all_added ss [] s (inl h))
