-- What a crash at some moment may have left.
use Rattle.std.specs.Prelude.{ℕ, ◌≡◌, ◌+◌, ◌-◌, ◌≤◌, List, length, drop}
use Rattle.pg_disk.specs.Disk.{IsImage}
use Rattle.pg_disk.specs.Told.{Event, Told, steps_of}

-- From the moment of the old history to that of the new one each crash, between two calls or during
-- one, leaves of this file only what has P. During a call a crash leaves what it may leave before
-- the call or behind it.
pub record LeavesOnly (name : List ℕ) (file : ℕ) (old new : List Event)
    (P : List ℕ → Type 0) : Type 0 where
  pub no_fewer : length old ≤ length new
  pub later : drop (length new - length old) new ≡ old
  pub each : (ago : ℕ) → ago + length old ≤ length new → (image : List ℕ)
      → IsImage (steps_of name file (drop ago new)) image → P image

-- the same of a file of the name that was chosen at the old moment
abbrev pub LeavesSince : ℕ → Told → Told → (List ℕ → Type 0) → Type 0
LeavesSince file old new P = LeavesOnly old.chosen file old.history new.history P
