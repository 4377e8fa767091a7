-- What a spawner tells, and spawners in memory.
use Rattle.std.specs.Prelude.{ℕ, ℤ, pos, List, [], ◌∷◌, ◌++◌, get_or}
use Rattle.pg_net.specs.declared.started.Waited.{Waited}
use Rattle.pg_net.specs.Counts.{Counts, none_made}

-- a program that was started: its name and its words, and the child's number
pub record Started : Type 0 where
  pub words : List (List ℕ)
  pub child : ℕ

-- what was started, and the waits that gave a status, the first of them first
pub record Told : Type 0 where
  pub started : List Started
  pub waits : List Waited

abbrev pub with_started : Told → List (List ℕ) → ℕ → Told
with_started told words child = record {
  started = told.started ++ record { words = words; child = child } ∷ [];
  waits = told.waits;
}

abbrev pub with_wait : Told → ℕ → ℤ → Told
with_wait told child status = record {
  started = told.started;
  waits = told.waits ++ record { child = child; status = status } ∷ [];
}

-- what it tells, the statuses that its children end with, the first child's first, and its calls
pub record Remembered : Type 0 where
  pub told : Told
  pub statuses : List ℤ
  pub counts : Counts

-- nothing was started, with these calls that fail
abbrev pub fresh : List ℤ → List ℕ → Remembered
fresh statuses fails = record {
  told = record { started = []; waits = [] };
  statuses = statuses;
  counts = none_made fails;
}

-- the status of a child; 0 where none was given for it
abbrev pub status_of : List ℤ → ℕ → ℤ
status_of statuses child = get_or statuses child (pos 0)

-- of a spawner that does not tell
abbrev pub untold : Told
untold = record { started = []; waits = [] }
