-- How a server that runs ends.
use Rattle.std.specs.Prelude.{ℕ, ◌≡◌, ◌⊎◌}
use Rattle.pg_io.specs.Causes.{Rose}
use Rattle.pg_event.specs.declared.status.Status.{Status}
use Rattle.pg_event.specs.declared.status.Status.TheVariants.{Done, TurnsSpent, NetFault, DiskFault, BadLog, OtherLog, OutOfMemory}

-- memory ran out, or a call on the net failed, whose faults were so many before and are so many now
abbrev pub IsNetFault : ℕ → ℕ → Status → Type 0
IsNetFault before now s = (s ≡ OutOfMemory) ⊎ ((s ≡ NetFault) × Rose before now)

-- the same of the disk
abbrev pub IsDiskFault : ℕ → ℕ → Status → Type 0
IsDiskFault before now s = (s ≡ OutOfMemory) ⊎ ((s ≡ DiskFault) × Rose before now)

-- memory ran out, or a call on the net or on the disk failed
abbrev pub IsFault : (net_before net_now disk_before disk_now : ℕ) → Status → Type 0
IsFault net_before net_now disk_before disk_now s = (s ≡ OutOfMemory)
    ⊎ (((s ≡ NetFault) × Rose net_before net_now) ⊎ ((s ≡ DiskFault) × Rose disk_before disk_now))

-- it ended by itself: by `stop`, or behind all its takes
abbrev pub IsWhole : Status → Type 0
IsWhole s = (s ≡ Done) ⊎ (s ≡ TurnsSpent)

-- the log is none that it may go on with
abbrev pub IsRefusal : Status → Type 0
IsRefusal s = ((place : ℕ) × (s ≡ BadLog place))
    ⊎ ((server servers : ℕ) × (s ≡ OtherLog server servers))

-- there is no other end
abbrev pub IsEnd : (net_before net_now disk_before disk_now : ℕ) → Status → Type 0
IsEnd net_before net_now disk_before disk_now s =
    IsWhole s ⊎ (IsFault net_before net_now disk_before disk_now s ⊎ IsRefusal s)
