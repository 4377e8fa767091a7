-- What saving makes of the slots, where it is done and where it is not.
use Rattle.std.proofs.Common.{◌≡◌, ◌⊎◌, inl, inr, ℕ, ◌+◌, ◌-◌, ◌^◌, ◌<◌, ◌≤◌, List, length, Option, Some, None, Ok, refl, ap, subst, arith}
use Rattle.std.proofs.lemmas.Bool.{cases_lt}
use Rattle.pg_disk.specs.Told.{Told, given}
use Rattle.pg_checkpoint.specs.Slots.{Slot, IsSlot}
use Rattle.pg_checkpoint.specs.Loads.{LoadsOldOrNew, LoadsTo, next, number_of}
use Rattle.pg_checkpoint.specs.Saves.{AreSettled, IsFull, Loads, SlotsLeave}
use Rattle.pg_checkpoint.proofs.Counts.{loads_once}
use Rattle.pg_checkpoint.proofs.Outcomes.{slots_started}
use Rattle.pg_checkpoint.proofs.Slots.{one_slot}
use Rattle.pg_saving.specs.Saves.{CanSave, IsReadAgain, IsSavable, LeavesSaved, Saves, saved}
use Rattle.pg_state.specs.Spelling.{state_bytes}
use Rattle.pg_state_read.specs.Whole.{state_of}
use Rattle.pg_store.specs.declared.store.Store.{Store}

-- no slot has a greater number than what is loaded
no_greater : (first second : List ℕ) (was : Option Slot) → LoadsTo first second was → (slot : Slot) → IsSlot first slot ⊎ IsSlot second slot → slot.number ≤ number_of was
no_greater first second None none slot (inl is) = absurd (none.0 slot is)
no_greater first second None none slot (inr is) = absurd (none.1 slot is)
no_greater first second (Some s) (inl there) slot (inl is) = there.1 slot is
no_greater first second (Some s) (inl there) slot (inr is) = let same : slot.number ≡ s.number = ap (λ (x : Slot). x.number) (one_slot second slot s is there.0) in omega (arith, same)
no_greater first second (Some s) (inr there) slot (inl is) = let same : slot.number ≡ s.number = ap (λ (x : Slot). x.number) (one_slot first slot s is there.0) in omega (arith, same)
no_greater first second (Some s) (inr there) slot (inr is) = let less = there.1 slot is in omega (arith, less)

module _ (server servers folded : ℕ) (store : Store) (old : Told) where
  -- no number is left
  pub full_ends : IsFull old → (was : Option Slot) → Loads old was → CanSave server servers store was → ⊥
  full_ends full was loads can =
      let most : full.0.number ≤ number_of was = no_greater (given old 1) (given old 2) was loads full.0 full.1 in
      let top : full.0.number ≡ 2 ^ 64 - 1 = full.2 in
      let room : number_of was + 1 < 2 ^ 64 = can.room in
      omega (arith, most, top, room)

  -- a number is left
  slot_room : (slot : Slot) → IsSlot (given old 1) slot ⊎ IsSlot (given old 2) slot → slot.number < 2 ^ 64 → (IsFull old → ⊥) → slot.number + 1 < 2 ^ 64
  slot_room slot is small not_full = elim (cases_lt (slot.number + 1) (2 ^ 64)) [
    | inl less ↦ less
    | inr more ↦ absurd (not_full (slot, is, omega (arith, small, more)))
  ]

  room_left : (was : Option Slot) → Loads old was → (IsFull old → ⊥) → number_of was + 1 < 2 ^ 64
  room_left None loads not_full = lit_small
    where
      lit_small : 0 + 1 < 2 ^ 64
      lit_small = omega arith
  room_left (Some slot) (inl there) not_full = slot_room slot (inr there.0) there.0.fits.number not_full
  room_left (Some slot) (inr there) not_full = slot_room slot (inl there.0) there.0.fits.number not_full

  -- ---- it is not done

  pub none_saved : (was : Option Slot) → Loads old was → (CanSave server servers store was → ⊥) → (now : Option Slot) × Saves server servers folded store was now × Loads old now
  none_saved was loads not = (was, inr (not, refl), loads)

  pub none_leaves : AreSettled old → (was : Option Slot) → Loads old was → SlotsLeave old old (LeavesSaved server servers folded store was)
  none_leaves settled was loads = slots_started old (LeavesSaved server servers folded store was) settled (inl loads)

  -- ---- it is done

  module _ (new : Told) (is : IsSavable server servers store) where
    again : state_of (state_bytes store) ≡ Ok store → IsReadAgain server servers store
    again read = record { own = is.own; all = is.all; read = read }

    pub now_saved : state_of (state_bytes store) ≡ Ok store → length (state_bytes store) < 2 ^ 32 → (IsFull old → ⊥) → (before : Option Slot) × Loads old before × Loads new (Some (next before folded (state_bytes store)))
        → (was : Option Slot) → Loads old was → (now : Option Slot) × Saves server servers folded store was now × Loads new now
    now_saved read short not_full there was loads =
        let same : there.0 ≡ was = loads_once (given old 1) (given old 2) there.0 was there.1 loads in (
          Some (saved folded store was),
          inl (record { is = is; short = short; room = room_left was loads not_full }, again read, refl),
          subst (λ (w : Option Slot). Loads new (Some (next w folded (state_bytes store)))) same there.2,
        )

    pub done_leaves : state_of (state_bytes store) ≡ Ok store → (was : Option Slot) → SlotsLeave old new (LoadsOldOrNew was (next was folded (state_bytes store)))
        → SlotsLeave old new (LeavesSaved server servers folded store was)
    done_leaves read was leaves = record {
      no_fewer = leaves.no_fewer;
      later = leaves.later;
      each = λ ago fewer first second is_first is_second. among first second (leaves.each ago fewer first second is_first is_second);
    }
      where
        among : (first second : List ℕ) → LoadsOldOrNew was (next was folded (state_bytes store)) first second → LeavesSaved server servers folded store was first second
        among first second (inl as_before) = inl as_before
        among first second (inr (inl new_one)) = inr (inl (again read, new_one))
        among first second (inr (inr none)) = inr (inr none)
