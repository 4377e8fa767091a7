-- A disk in memory.
use Rattle.std.specs.Prelude.{ℕ, ◌≡◌, ◌+◌, ◌-◌, ◌^◌, ◌==◌, ◌&&◌, List, [], ◌∷◌, Bool, min, OnOk, Result, string_bytes, bytes_eq, if◌then◌else◌}
use Rattle.pg_disk.specs.Disk.{Change, Step, Done, Failing, contents, changed}
use Rattle.pg_disk.specs.Disk.{Write as Writes, Cut as Cuts, Sync as Syncs}
use Rattle.pg_disk.specs.Told.{Event, Told, steps_of}
use Rattle.pg_disk.specs.declared.edit.Edit.{Edit}
use Rattle.pg_disk.specs.declared.edit.Edit.TheVariants.{Write, Cut, Sync}
use Rattle.pg_disk.specs.declared.call.Call.{Call}

-- the name that was chosen last, and the calls that changed files, the first of them first; the
-- numbers of the calls that fail, where the first call has number 0; how many calls were made, and
-- how many failed
pub record Remembered : Type 0 where
  pub chosen : List ℕ
  pub made : List Call
  pub fails : List ℕ
  pub calls : ℕ
  pub faults : ℕ

abbrev pub change_of : Edit → Change
change_of (Write at bytes) = Writes at bytes.items
change_of (Cut longest) = Cuts longest
change_of Sync = Syncs

-- the step of a call that was done, or that failed and did nothing
abbrev pub step_of : Bool → Change → List ℕ → Step
step_of is_done change file = if is_done then Done change else Failing change file

abbrev pub event_of : Call → List Event → Event
event_of call history = record {
  name = string_bytes call.name;
  file = call.file;
  step = step_of call.is_done (change_of call.edit)
      (contents (steps_of (string_bytes call.name) call.file history));
}

-- the history with these calls, of which the first stands first
abbrev pub with_calls : List Event → List Call → List Event
with_calls history [] = history
with_calls history (call ∷ later) = with_calls (event_of call history ∷ history) later

-- what a call makes of one file of a name
abbrev pub behind_call : Call → List ℕ → ℕ → List ℕ → List ℕ
behind_call call name file bytes = if bytes_eq (string_bytes call.name) name && (call.file == file)
    then (if call.is_done then changed (change_of call.edit) bytes else bytes) else bytes

-- what it tells
abbrev pub told_of : Remembered → Told
told_of disk = record { chosen = disk.chosen; history = with_calls [] disk.made }

-- a disk on which nothing was done, with these calls that fail
abbrev pub fresh : List ℕ → Remembered
fresh fails = record { chosen = []; made = []; fails = fails; calls = 0; faults = 0 }

-- a call was counted
pub record IsCounted {T E : Type 0} (before now : Remembered) (result : Result T E) : Type 0 where
  pub calls : now.calls ≡ min (before.calls + 1) (2 ^ 64 - 1)
  pub faults : OnOk result (now.faults ≡ before.faults)
  pub fails : now.fails ≡ before.fails
