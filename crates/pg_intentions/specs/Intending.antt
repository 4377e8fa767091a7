-- What is given of something, and slots in order.
use Rattle.std.specs.Prelude.{List, [], ◌∷◌, Option, None, Some}
use Rattle.std.specs.BTreeMap.{insert_entry}
use Rattle.std.specs.Map.{keys_of}
use Rattle.pg_graph.specs.pg_msg.declared.work.Slot.{Slot}
use Rattle.pg_graph.specs.pg_msg.Work.{slot_cmp}
pub use Rattle.pg_graph.specs.pg_pieces.Intending.{begin_intent, each, with_begun_if}

-- what a function gives of something, if there is one
abbrev pub pieces : {A B : Type 0} → (A → List B) → Option A → List B
pieces f None = []
pieces f (Some x) = f x

-- ---- slots in order

abbrev pub Slots : Type 0
Slots = List (Slot × Unit {0})

abbrev pub add_slots : Slots → List Slot → Slots
add_slots slots [] = slots
add_slots slots (s ∷ ss) = add_slots (insert_entry slot_cmp slots s tt) ss

-- each of these once, by directory and then by child
abbrev pub in_order : List Slot → List Slot
in_order ss = keys_of (add_slots [] ss)
