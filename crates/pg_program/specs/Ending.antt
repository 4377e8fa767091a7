-- How a command ends.
use Rattle.std.specs.Prelude.{ℕ, ◌≡◌, ◌⊎◌, List, Option, IfSome}
pub use Rattle.pg_call.specs.declared.fault.Fault.{Fault}
use Rattle.pg_event.specs.declared.status.Status.{Status}
use Rattle.pg_event.specs.declared.status.Status.TheVariants as status
pub use Rattle.pg_io.specs.Causes.{Rose}
pub use Rattle.pg_sched.specs.Schedule.{IsFirstBad}
pub use Rattle.std.specs.Io.KnownBytes.{IsAtEnd}

-- so, or out of memory
abbrev pub EndsOnly : Status → Status → Type 0
EndsOnly result other = (result ≡ other) ⊎ (result ≡ status.OutOfMemory)

-- the input is known, and this is its first line outside the grammar, and why
abbrev pub FirstBadIs : Option (List ℕ) → ℕ → Fault → Type 0
FirstBadIs input number fault = IfSome input (λ bytes. IsFirstBad bytes number fault)

-- how a command ends that touches no net: not by a word at fault
abbrev pub IsFileEnd : Status → Type 0
IsFileEnd status.Done = Unit {0}
IsFileEnd (status.Usage word) = ⊥
IsFileEnd status.ReadFault = Unit {0}
IsFileEnd status.WriteFault = Unit {0}
IsFileEnd status.NetFault = ⊥
IsFileEnd status.DiskFault = ⊥
IsFileEnd status.InputLong = Unit {0}
IsFileEnd (status.BadLine line fault) = Unit {0}
IsFileEnd (status.BadLog place) = ⊥
IsFileEnd status.TurnsSpent = ⊥
IsFileEnd (status.Refused number) = ⊥
IsFileEnd status.OutOfMemory = Unit {0}
IsFileEnd (status.OtherLog server servers) = ⊥

-- how one ends that writes a text
abbrev pub IsTextEnd : Status → Type 0
IsTextEnd status.Done = Unit {0}
IsTextEnd (status.Usage word) = ⊥
IsTextEnd status.ReadFault = ⊥
IsTextEnd status.WriteFault = Unit {0}
IsTextEnd status.NetFault = ⊥
IsTextEnd status.DiskFault = ⊥
IsTextEnd status.InputLong = ⊥
IsTextEnd (status.BadLine line fault) = ⊥
IsTextEnd (status.BadLog place) = ⊥
IsTextEnd status.TurnsSpent = ⊥
IsTextEnd (status.Refused number) = ⊥
IsTextEnd status.OutOfMemory = Unit {0}
IsTextEnd (status.OtherLog server servers) = ⊥

-- how a node ends
abbrev pub IsNodeEnd : Status → Type 0
IsNodeEnd status.Done = Unit {0}
IsNodeEnd (status.Usage word) = ⊥
IsNodeEnd status.ReadFault = ⊥
IsNodeEnd status.WriteFault = ⊥
IsNodeEnd status.NetFault = Unit {0}
IsNodeEnd status.DiskFault = Unit {0}
IsNodeEnd status.InputLong = ⊥
IsNodeEnd (status.BadLine line fault) = ⊥
IsNodeEnd (status.BadLog place) = Unit {0}
IsNodeEnd status.TurnsSpent = Unit {0}
IsNodeEnd (status.Refused number) = ⊥
IsNodeEnd status.OutOfMemory = Unit {0}
IsNodeEnd (status.OtherLog server servers) = Unit {0}

-- how a call ends
abbrev pub IsCallEnd : Status → Type 0
IsCallEnd status.Done = Unit {0}
IsCallEnd (status.Usage word) = ⊥
IsCallEnd status.ReadFault = ⊥
IsCallEnd status.WriteFault = Unit {0}
IsCallEnd status.NetFault = Unit {0}
IsCallEnd status.DiskFault = ⊥
IsCallEnd status.InputLong = ⊥
IsCallEnd (status.BadLine line fault) = ⊥
IsCallEnd (status.BadLog place) = ⊥
IsCallEnd status.TurnsSpent = Unit {0}
IsCallEnd (status.Refused number) = Unit {0}
IsCallEnd status.OutOfMemory = Unit {0}
IsCallEnd (status.OtherLog server servers) = ⊥
