-- How slots stand on a disk, and what saving does to them.
use Rattle.std.specs.Prelude.{ℕ, ◌≡◌, ◌+◌, ◌-◌, ◌≤◌, ◌^◌, ◌⊎◌, List, length, drop}
use Rattle.std.specs.declared.option.Option.{Option}
use Rattle.pg_disk.specs.Disk.{IsImage, IsSettled}
use Rattle.pg_disk.specs.Told.{Told, steps_of, steps, given}
use Rattle.pg_checkpoint.specs.Slots.{Slot, IsSlot}
use Rattle.pg_checkpoint.specs.Loads.{LoadsTo}

-- the slots of the chosen name, files 1 and 2, load to this
abbrev pub Loads : Told → Option Slot → Type 0
Loads told found = LoadsTo (given told 1) (given told 2) found

-- a crash leaves of both slots just what a read gives
pub record AreSettled (told : Told) : Type 0 where
  pub first : IsSettled (steps told 1)
  pub second : IsSettled (steps told 2)

-- At each moment since the old one, whatever a crash leaves of the one slot and of the other, it
-- is only what has P.
pub record SlotsLeave (old new : Told) (P : List ℕ → List ℕ → Type 0) : Type 0 where
  pub no_fewer : length old.history ≤ length new.history
  pub later : drop (length new.history - length old.history) new.history ≡ old.history
  pub each : (ago : ℕ) → ago + length old.history ≤ length new.history → (first second : List ℕ)
      → IsImage (steps_of old.chosen 1 (drop ago new.history)) first
      → IsImage (steps_of old.chosen 2 (drop ago new.history)) second → P first second

-- a slot has the greatest number that there is
abbrev pub IsFull : Told → Type 0
IsFull told = (slot : Slot) × (IsSlot (given told 1) slot ⊎ IsSlot (given told 2) slot)
    × (slot.number ≡ 2 ^ 64 - 1)

-- the same name is chosen, only files 1 and 2 of it may have changed, and what was done before
-- stands there
pub record KeepsRest (old new : Told) : Type 0 where
  pub chosen : new.chosen ≡ old.chosen
  pub no_fewer : length old.history ≤ length new.history
  pub later : drop (length new.history - length old.history) new.history ≡ old.history
  pub others : (name : List ℕ) (file : ℕ)
      → ((name ≡ old.chosen) × ((file ≡ 1) ⊎ (file ≡ 2)) → ⊥)
      → steps_of name file new.history ≡ steps_of name file old.history
