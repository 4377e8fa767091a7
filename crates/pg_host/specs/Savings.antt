-- What becomes of the slots while a server makes its turns.
use Rattle.std.specs.Prelude.{ℕ, ◌≡◌, ◌==◌, ◌+◌, ◌-◌, ◌<◌, ◌%◌, ◌^◌, min, List, ◌++◌, length, Bool, false, None, Some}
use Rattle.std.specs.Option.{ForSome}
use Rattle.std.specs.declared.option.Option.{Option}
use Rattle.pg_checkpoint.specs.Saves.{Loads}
use Rattle.pg_checkpoint.specs.Slots.{Slot}
use Rattle.pg_event.specs.declared.status.Status.{Status}
use Rattle.pg_log.specs.Log.{Stands}
use Rattle.pg_host.specs.declared.asking.Asked.{Asked}
use Rattle.pg_host.specs.Causes.{IsWhole}
use Rattle.pg_host.specs.Entries.{entries_for}
use Rattle.pg_host.specs.Host.{Ends, Goes, Runs, Scene}
use Rattle.pg_host.specs.Inputs.{asked}
use Rattle.pg_host.specs.Slots.{AgreeSince, AreWell, SlotsBehind, between}

-- The log stands with so many entries.
pub record StandsWith (entries : List (List ℕ)) (count : ℕ) (a : Scene) : Type 0 where
  pub stands : Stands a.log a.disk entries
  pub counted : length entries ≡ count

-- What becomes of the slots with these inputs between: where they agree with the log, they do so at
-- each moment; and they load to what is saved behind each 1,024th entry. So many entries were
-- appended before since the server began, and the log had so many in all.
pub record Saves (server servers appended count : ℕ) (own : List Asked) (a b : Scene) : Type 0 where
  pub well : (entries : List (List ℕ)) → StandsWith entries count a
      → AreWell server servers entries a.disk a.store
      → AreWell server servers (entries ++ entries_for own) b.disk b.store
  pub agree : (entries : List (List ℕ)) → StandsWith entries count a
      → AreWell server servers entries a.disk a.store
      → AgreeSince server servers a.disk b.disk
  pub saved : (entries : List (List ℕ)) → StandsWith entries count a → (was : Option Slot)
      → Loads a.disk was → (now : Option Slot) × Loads b.disk now
      × SlotsBehind server servers appended count a.store was own now

-- it is time to save: an input came, and none was appended since then
abbrev pub is_due : Option Bool → ℕ → Bool
is_due None since = false
is_due (Some stop) since = since == 0

-- the place of a gate, if one is known, is far from its type's end
abbrev pub IsNear : Option ℕ → Type 0
IsNear log = ForSome log (λ gate. gate + 1 < 2 ^ 64)

-- So many takes later, with what was saved between. `since` and `count` say how many entries were
-- appended since it was last time to save, and how many the log has, then and now.
pub record GoesOn (nt ct dt : Type 0) (server servers port since0 count0 since1 count1 takes : ℕ)
    (stop : Bool) (a b : Scene) : Type 0 where
  pub goes : Goes nt ct dt port takes stop a b
  pub near : IsNear b.log
  pub counted : count1
      ≡ min (count0 + length (asked goes.gave goes.moments goes.words)) (2 ^ 64 - 1)
  pub since : since1 ≡ (since0 + length (asked goes.gave goes.moments goes.words)) % between
  pub saves : dt → (appended : ℕ) → since0 ≡ appended % between
      → Saves server servers appended count0 (asked goes.gave goes.moments goes.words) a b

-- wherever it ended: the slots agree with the log at each moment, where they did
pub record EndsSafely (nt ct dt : Type 0) (server servers port count most : ℕ) (a b : Scene)
    : Type 0 where
  pub ends : Ends nt ct dt port most a b
  pub agree : dt → (entries : List (List ℕ)) → StandsWith entries count a
      → AreWell server servers entries a.disk a.store
      → AgreeSince server servers a.disk b.disk

-- the same, with what becomes of the slots
pub record RunsOn (nt ct dt : Type 0) (server servers port appended count turns : ℕ) (s : Status)
    (a b : Scene) : Type 0 where
  pub runs : Runs nt ct dt port turns s a b
  pub agree : dt → (entries : List (List ℕ)) → StandsWith entries count a
      → AreWell server servers entries a.disk a.store
      → AgreeSince server servers a.disk b.disk
  pub saves : IsWhole s → dt → Saves server servers appended count
      (asked runs.ends.gave runs.ends.moments runs.ends.words) a b
