-- A change of a file, and a sync behind it.
use Rattle.std.specs.Prelude.{ℕ, ◌≡◌, ◌-◌, ◌≤◌, List, length, drop, Result, OnOk}
use Rattle.pg_disk.specs.Disk.{Change, changed, MayMake, IsSettled}
use Rattle.pg_disk.specs.Told.{Told, steps_of, steps, given}
use Rattle.pg_disk.specs.Moments.{LeavesSince}

-- this is not that file of that name
abbrev pub IsAnother : List ℕ → ℕ → List ℕ → ℕ → Type 0
IsAnother name file own_name own_file = (name ≡ own_name) × (file ≡ own_file) → ⊥

-- the same name is chosen, only this file of it was changed, and what was done before stands there
pub record KeepsOthers (file : ℕ) (old new : Told) : Type 0 where
  pub chosen : new.chosen ≡ old.chosen
  pub no_fewer : length old.history ≤ length new.history
  pub later : drop (length new.history - length old.history) new.history ≡ old.history
  pub others : (name : List ℕ) (other : ℕ) → IsAnother name other old.chosen file
      → steps_of name other new.history ≡ steps_of name other old.history

-- Once it is done a read gives the changed file, and so does each crash. Where a crash left just
-- what a read gives, at each moment since it leaves that file, the changed one, or what a crash
-- during the change may make of it.
pub record IsSynced {E : Type 0} (result : Result Unit E) (file : ℕ) (change : Change)
    (old new : Told) : Type 0 where
  pub keeps : KeepsOthers file old new
  pub contents : OnOk result (given new file ≡ changed change (given old file))
  pub settled : OnOk result (IsSettled (steps new file))
  pub moments : IsSettled (steps old file)
      → LeavesSince file old new (MayMake change (given old file))
