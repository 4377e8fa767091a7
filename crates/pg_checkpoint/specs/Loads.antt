-- Which slot is loaded.
use Rattle.std.specs.Prelude.{ℕ, ◌≡◌, ◌+◌, ◌≤◌, ◌<◌, ◌⊎◌, List, None, Some}
use Rattle.std.specs.declared.option.Option.{Option}
use Rattle.pg_checkpoint.specs.Slots.{Slot, IsSlot, IsEmpty}

-- a slot in the file, if there is one, has at most this number, or less
abbrev pub HasAtMost : List ℕ → ℕ → Type 0
HasAtMost file number = (slot : Slot) → IsSlot file slot → slot.number ≤ number

abbrev pub HasLess : List ℕ → ℕ → Type 0
HasLess file number = (slot : Slot) → IsSlot file slot → slot.number < number

-- the slot with the greater number, of two equal ones the second; none where both are empty
abbrev pub LoadsTo : List ℕ → List ℕ → Option Slot → Type 0
LoadsTo first second None = IsEmpty first × IsEmpty second
LoadsTo first second (Some slot) = (IsSlot second slot × HasAtMost first slot.number)
    ⊎ (IsSlot first slot × HasLess second slot.number)

-- its number; an empty slot counts as 0
abbrev pub number_of : Option Slot → ℕ
number_of None = 0
number_of (Some slot) = slot.number

-- what is saved over what is loaded has the greater number and 1
abbrev pub next : Option Slot → ℕ → List ℕ → Slot
next was folded state = record { number = number_of was + 1; folded = folded; state = state }

-- what is loaded is as it was, or the new slot. Nothing is loaded only where nothing was, or where
-- the one slot had the number 0, which no saving gives.
abbrev pub LoadsOldOrNew : Option Slot → Slot → List ℕ → List ℕ → Type 0
LoadsOldOrNew was new first second = LoadsTo first second was
    ⊎ (LoadsTo first second (Some new) ⊎ ((number_of was ≡ 0) × LoadsTo first second None))
