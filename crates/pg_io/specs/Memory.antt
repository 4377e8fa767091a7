-- A source or a sink in memory.
use Rattle.std.specs.Prelude.{ℕ, ◌≡◌, ◌+◌, ◌-◌, ◌^◌, List, min, OnOk, Result}

-- the bytes that are left to read, or that were written; the numbers of the calls that fail, where
-- the first call has number 0; the most bytes of one call; how many calls were made, and how many
-- failed
pub record InMemory : Type 0 where
  pub bytes : List ℕ
  pub fails : List ℕ
  pub chunk : ℕ
  pub calls : ℕ
  pub faults : ℕ

-- a call was counted, and no more failures than the one that it answered
pub record IsCounted {T E : Type 0} (before now : InMemory) (result : Result T E) : Type 0 where
  pub calls : now.calls ≡ min (before.calls + 1) (2 ^ 64 - 1)
  pub faults : OnOk result (now.faults ≡ before.faults)
  pub fails : now.fails ≡ before.fails
  pub chunk : now.chunk ≡ before.chunk

-- with these bytes, and these calls that fail, before any call
abbrev pub fresh : List ℕ → List ℕ → ℕ → InMemory
fresh bytes fails chunk = record {
  bytes = bytes;
  fails = fails;
  chunk = chunk;
  calls = 0;
  faults = 0;
}
