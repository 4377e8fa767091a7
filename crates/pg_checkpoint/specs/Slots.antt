-- What the bytes of a slot stand for.
use Rattle.std.specs.Prelude.{ℕ, ◌≡◌, ◌<◌, ◌^◌, List, ◌∷◌, ◌++◌, length}
use Rattle.std.specs.Int.{to_be_bytes, w32, w64}

-- a state, how many entries of the log are folded in it, and the number that says which is newer
pub record Slot : Type 0 where
  pub number : ℕ
  pub folded : ℕ
  pub state : List ℕ

-- each of its numbers has room in its bytes
pub record Fits (slot : Slot) : Type 0 where
  pub number : slot.number < 2 ^ 64
  pub folded : slot.folded < 2 ^ 64
  pub short : length slot.state < 2 ^ 32

-- the number, the count of entries and the length of the state, each with its highest byte first
abbrev pub numbers : ℕ → ℕ → ℕ → List ℕ
numbers number folded length =
    to_be_bytes w64 number ++ (to_be_bytes w64 folded ++ to_be_bytes w32 length)

-- what stands behind the gate
abbrev pub behind_gate : Slot → List ℕ
behind_gate slot = numbers slot.number slot.folded (length slot.state) ++ slot.state

-- the file is an open gate, this slot, and anything behind it
pub record IsSlot (file : List ℕ) (slot : Slot) : Type 0 where
  pub fits : Fits slot
  pub rest : List ℕ
  pub spelled : file ≡ 1 ∷ (behind_gate slot ++ rest)

-- the file is no slot: its gate is closed, or it ends before the state does
abbrev pub IsEmpty : List ℕ → Type 0
IsEmpty file = (slot : Slot) → IsSlot file slot → ⊥
