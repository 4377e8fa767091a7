-- What saving does, from what was read and what was written.
use Rattle.std.proofs.Common.{◌≡◌, ℕ, ◌^◌, ◌<◌, List, Option, Some, Result, subst}
use Rattle.pg_disk.specs.Disk.{IsSettled}
use Rattle.pg_disk.specs.Told.{Told, steps, given}
use Rattle.pg_disk.specs.Synced.{KeepsOthers}
use Rattle.pg_checkpoint.specs.Slots.{Slot, IsSlot, Fits, behind_gate}
use Rattle.pg_checkpoint.specs.Loads.{next, LoadsOldOrNew}
use Rattle.pg_checkpoint.specs.Saves.{Loads, AreSettled, SlotsLeave, IsFull, KeepsRest}
use Rattle.pg_checkpoint.specs.Heads.{IsNext, IsReplaced, gate_of}
use Rattle.pg_checkpoint.specs.declared.head.Turn.{Turn}
use Rattle.pg_checkpoint.proofs.Outcomes.{slots_leave, now_loads, now_settled, not_full, keeps_rest}

-- all is as it was when it was read
module _ (old mid new : Told) (same : mid ≡ old) (turn : Turn) (is_next : IsNext old turn) (keeps_mid : KeepsOthers turn.file mid new) where
  keeps : KeepsOthers turn.file old new
  keeps = subst (λ (t : Told). KeepsOthers turn.file t new) same keeps_mid

  pub rest_stays : KeepsRest old new
  rest_stays = keeps_rest old new is_next.first is_next.second turn.file turn.number is_next.goes keeps

  pub none_left : turn.number < 2 ^ 64 → IsFull old → ⊥
  none_left small = not_full old is_next.first is_next.second is_next.counts_first is_next.counts_second turn.file turn.number is_next.goes small

  module _ (folded : ℕ) (state bytes : List ℕ) where
    abbrev slot : Slot
    slot = record { number = turn.number; folded = folded; state = state }

    module _ {E : Type 0} (result : Result (Unit {0}) E) (fits : Fits slot) (bytes_are : bytes ≡ behind_gate slot)
        (replaced_mid : turn.gate ≡ gate_of (given mid turn.file) → (s : Slot) → Fits s → bytes ≡ behind_gate s → IsReplaced result turn.file s mid new) where
      pub is_replaced : IsReplaced result turn.file slot old new
      is_replaced = subst (λ (t : Told). turn.gate ≡ gate_of (given t turn.file) → IsReplaced result turn.file slot t new) same (λ gate. replaced_mid gate slot fits bytes_are) is_next.gate

      pub moments : AreSettled old → (was : Option Slot) → Loads old was → SlotsLeave old new (LoadsOldOrNew was (next was folded state))
      moments = slots_leave old is_next.first is_next.second is_next.counts_first is_next.counts_second new turn.file turn.number folded state result is_next.goes keeps is_replaced

    pub loads_new : IsSlot (given new turn.file) slot → (was : Option Slot) × Loads old was × Loads new (Some (next was folded state))
    loads_new there = now_loads old is_next.first is_next.second is_next.counts_first is_next.counts_second new turn.file turn.number folded state is_next.goes keeps there

    pub settled_new : IsSettled (steps new turn.file) → AreSettled old → AreSettled new
    settled_new here = now_settled old new is_next.first is_next.second turn.file turn.number is_next.goes keeps here
