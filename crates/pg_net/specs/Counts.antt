-- The calls on an object in memory.
use Rattle.std.specs.Prelude.{ℕ, ◌≡◌, ◌+◌, ◌-◌, ◌^◌, List, min, OnOk, OnErr, Result}

-- the numbers of the calls that are to fail, where the first call has number 0; how many calls were
-- made, and how many failed
pub record Counts : Type 0 where
  pub fails : List ℕ
  pub calls : ℕ
  pub faults : ℕ

-- before any call
abbrev pub none_made : List ℕ → Counts
none_made fails = record { fails = fails; calls = 0; faults = 0 }

-- a call was counted, and a failure where it failed
pub record IsCounted {T E : Type 0} (before now : Counts) (result : Result T E) : Type 0 where
  pub calls : now.calls ≡ min (before.calls + 1) (2 ^ 64 - 1)
  pub fails : now.fails ≡ before.fails
  pub done : OnOk result (now.faults ≡ before.faults)
  pub failed : OnErr result (now.faults ≡ min (before.faults + 1) (2 ^ 64 - 1))
