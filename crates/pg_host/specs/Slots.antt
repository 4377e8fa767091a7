-- The slots of a server's name, and its log.
use Rattle.std.specs.Prelude.{ℕ, ◌≡◌, ◌==◌, ◌+◌, ◌-◌, ◌%◌, ◌≤◌, ◌⊎◌, List, [], ◌∷◌, ◌++◌, length, take, drop, Bool, true, false, Some, None}
use Rattle.std.specs.declared.option.Option.{Option}
use Rattle.pg_node_input.specs.law_lengths.Laws.{store_behind}
use Rattle.pg_server.specs.Local.{effect_of}
use Rattle.pg_server.specs.declared.input.Input.{Input}
use Rattle.pg_checkpoint.specs.Loads.{LoadsTo}
use Rattle.pg_checkpoint.specs.Saves.{AreSettled, Loads}
use Rattle.pg_checkpoint.specs.Slots.{Slot}
use Rattle.pg_disk.specs.Disk.{IsImage}
use Rattle.pg_disk.specs.Told.{Event, Told, steps_of}
use Rattle.pg_log.specs.Bytes.{OpensTo}
use Rattle.pg_saving.specs.Saves.{Saves}
use Rattle.pg_saving.specs.Usable.{usable}
use Rattle.pg_saving.specs.declared.loading.Checkpoint.{Checkpoint}
use Rattle.pg_state.specs.Spelling.{state_bytes}
use Rattle.pg_store.specs.Store.{new_store}
use Rattle.pg_store.specs.declared.store.Store.{Store}
use Rattle.pg_host.specs.declared.asking.Asked.{Asked}
use Rattle.pg_host.specs.Logs.{IsLogOf}

-- ---- three files of a name

-- Only the log and the slots of the chosen name may have changed, and what was done before stands
-- there.
pub record KeepsFiles (old new : Told) : Type 0 where
  pub chosen : new.chosen ≡ old.chosen
  pub no_fewer : length old.history ≤ length new.history
  pub later : drop (length new.history - length old.history) new.history ≡ old.history
  pub others : (name : List ℕ) (file : ℕ) → ((name ≡ old.chosen) × (file ≤ 2) → ⊥)
      → steps_of name file new.history ≡ steps_of name file old.history

-- From the moment of the old history to that of the new one each crash, between two calls or during
-- one, leaves of the log and of the slots of a name only what has P.
pub record FilesLeave (name : List ℕ) (old new : List Event)
    (P : (log first second : List ℕ) → Type 0) : Type 0 where
  pub no_fewer : length old ≤ length new
  pub later : drop (length new - length old) new ≡ old
  pub each : (ago : ℕ) → ago + length old ≤ length new → (log first second : List ℕ)
      → IsImage (steps_of name 0 (drop ago new)) log
      → IsImage (steps_of name 1 (drop ago new)) first
      → IsImage (steps_of name 2 (drop ago new)) second → P log first second

-- ---- slots that agree with a log

-- the state in the slot is the fold of the first of these entries, as many as it says
pub record IsFoldOf (server servers : ℕ) (entries : List (List ℕ)) (slot : Slot) : Type 0 where
  pub checkpoint : Checkpoint
  pub used : usable server servers (length entries) (Some slot) ≡ Some checkpoint
  pub inputs : List Input
  pub log : IsLogOf server servers inputs entries
  pub fold : checkpoint.store
      ≡ store_behind (new_store servers server) (take (checkpoint.folded - 1) inputs)

-- what is loaded agrees with these entries: nothing is, or what nobody saved, or it is their fold
abbrev pub Agrees : (server servers : ℕ) → List (List ℕ) → Option Slot → Type 0
Agrees server servers entries None = Unit {0}
Agrees server servers entries (Some slot) =
    (slot.number ≡ 0) ⊎ IsFoldOf server servers entries slot

-- THE SLOTS AGREE with the log
abbrev pub Agree : (server servers : ℕ) → (log first second : List ℕ) → Type 0
Agree server servers log first second = (entries : List (List ℕ)) → OpensTo log entries
    → (slot : Option Slot) → LoadsTo first second slot → Agrees server servers entries slot

-- and so they do, whatever a crash leaves, at each moment between
abbrev pub AgreeSince : (server servers : ℕ) → (old new : Told) → Type 0
AgreeSince server servers old new =
    FilesLeave old.chosen old.history new.history (Agree server servers)

-- The slots agree with these entries, a crash leaves of them just what a read gives, and the store
-- is the fold of all the entries.
pub record AreWell (server servers : ℕ) (entries : List (List ℕ)) (disk : Told) (store : Store)
    : Type 0 where
  pub settled : AreSettled disk
  pub slot : Option Slot
  pub loads : Loads disk slot
  pub agrees : Agrees server servers entries slot
  pub inputs : List Input
  pub log : IsLogOf server servers inputs entries
  pub fold : store ≡ store_behind (new_store servers server) inputs

-- ---- when a server saves

-- how many entries are appended from one saving to the next
abbrev pub between : ℕ
between = 1024

-- where it is time, it saves what it holds behind so many entries
abbrev pub SavesIf : Bool → (server servers count : ℕ) → Store → (was now : Option Slot) → Type 0
SavesIf true server servers count store was now = Saves server servers count store was now
SavesIf false server servers count store was now = now ≡ was

-- behind so many entries that were appended, so many in all
abbrev pub SavesAt : (server servers appended count : ℕ) → Store → (was now : Option Slot) → Type 0
SavesAt server servers appended count store was now =
    SavesIf (appended % between == 0) server servers count store was now

-- WHAT THE SLOTS LOAD TO behind these inputs: where a multiple of 1,024 entries was appended since
-- the server began, it saves what it holds. So many were appended before, and so many were in all.
abbrev pub SlotsBehind : (server servers appended count : ℕ) → Store → Option Slot → List Asked
    → Option Slot → Type 0
SlotsBehind server servers appended count store was [] now = now ≡ was
SlotsBehind server servers appended count store was (a ∷ more) now = (mid : Option Slot)
    × SavesAt server servers (appended + 1) (count + 1) (effect_of store a.input).store was mid
    × SlotsBehind server servers (appended + 1) (count + 1) (effect_of store a.input).store mid
    more now

-- the slots load to this store, with so many entries folded
pub record IsSavedLast (count : ℕ) (store : Store) (now : Option Slot) : Type 0 where
  pub slot : Slot
  pub is : now ≡ Some slot
  pub folded : slot.folded ≡ count
  pub state : slot.state ≡ state_bytes store
