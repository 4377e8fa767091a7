-- What is read of a slot before its state, and where the next slot goes.
use Rattle.std.specs.Prelude.{ℕ, ◌≡◌, ◌+◌, ◌≤◌, ◌<◌, ◌==◌, ◌⊎◌, if◌then◌else◌, List, [], ◌∷◌, take, drop, None, Some, MatchOption, Result, OnOk}
use Rattle.std.specs.declared.option.Option.{Option}
use Rattle.pg_disk.specs.Disk.{Change, Write, Sync, IsSettled}
use Rattle.pg_disk.specs.Told.{Told, steps, given}
use Rattle.pg_disk.specs.Moments.{LeavesSince}
use Rattle.pg_checkpoint.specs.Slots.{Slot, IsSlot, IsEmpty}
use Rattle.pg_checkpoint.specs.declared.head.Entry.{Entry}
use Rattle.pg_checkpoint.specs.declared.head.Head.{Head}
use Rattle.pg_checkpoint.specs.declared.head.Turn.{Turn}

-- the first byte
abbrev pub gate_of : List ℕ → Option ℕ
gate_of [] = None
gate_of (gate ∷ rest) = Some gate

-- the slot of which this was read
abbrev pub slot_of : Entry → List ℕ → Slot
slot_of entry file = record {
  number = entry.number;
  folded = entry.folded;
  state = take entry.length (drop 21 file);
}

-- this was read of the file
pub record IsHead (file : List ℕ) (head : Head) : Type 0 where
  pub gate : head.gate ≡ gate_of file
  pub entry : MatchOption head.entry (IsEmpty file) (λ entry. IsSlot file (slot_of entry file))

-- what the slot counts as
abbrev pub counted : Option Entry → ℕ
counted None = 0
counted (Some entry) = entry.number

-- an empty slot counts as 0, another as its number
abbrev pub CountsAs : List ℕ → ℕ → Type 0
CountsAs file n = (IsEmpty file × (n ≡ 0)) ⊎ ((slot : Slot) × IsSlot file slot × (slot.number ≡ n))

-- Where the next slot goes, and its number, where the slots count as these: in the slot with the
-- smaller number, of two equal ones the first, with the greater number and 1.
abbrev pub Goes : ℕ → ℕ → ℕ → ℕ → Type 0
Goes first second file number = ((second < first) × (file ≡ 2) × (number ≡ first + 1))
    ⊎ ((first ≤ second) × (file ≡ 1) × (number ≡ second + 1))

-- the next slot goes there
pub record IsNext (told : Told) (turn : Turn) : Type 0 where
  pub first : ℕ
  pub second : ℕ
  pub counts_first : CountsAs (given told 1) first
  pub counts_second : CountsAs (given told 2) second
  pub goes : Goes first second turn.file turn.number
  pub gate : turn.gate ≡ gate_of (given told turn.file)

-- how a gate is closed: one that is closed keeps its value
abbrev pub closing : Option ℕ → Change
closing None = Write 0 (0 ∷ [])
closing (Some gate) = if gate == 1 then Write 0 (0 ∷ []) else Sync

-- The slot is in the file once this is done, and a crash leaves just that. At each moment before a
-- crash leaves the file as it was, no slot, or the new slot.
pub record IsReplaced {E : Type 0} (result : Result Unit E) (file : ℕ) (slot : Slot)
    (old new : Told) : Type 0 where
  pub holds : OnOk result (IsSlot (given new file) slot)
  pub settled : OnOk result (IsSettled (steps new file))
  pub moments : IsSettled (steps old file) → LeavesSince file old new
      (λ image. (image ≡ given old file) ⊎ (IsEmpty image ⊎ IsSlot image slot))
