-- How a server begins over its log.
use Rattle.std.specs.Prelude.{ℕ, ◌≡◌, ◌+◌, ◌-◌, ◌<◌, ◌≤◌, ◌⊎◌, List, [], ◌∷◌, ◌++◌, length, take, drop, Result, Ok, Err, None, Some}
use Rattle.std.specs.declared.option.Option.{Option}
use Rattle.pg_node_input.specs.law_lengths.Laws.{store_behind}
use Rattle.pg_checkpoint.specs.Saves.{Loads}
use Rattle.pg_checkpoint.specs.Slots.{Slot}
use Rattle.pg_disk.specs.Disk.{IsSettled}
use Rattle.pg_disk.specs.Told.{Told, given, steps}
use Rattle.pg_disk.specs.Moments.{LeavesSince}
use Rattle.pg_event.specs.declared.status.Status.{Status}
use Rattle.pg_event.specs.declared.status.Status.TheVariants as status
use Rattle.pg_io.specs.Causes.{Rose}
use Rattle.pg_log.specs.Bytes.{OpensTo, blocks}
use Rattle.pg_log.specs.Log.{OpensWithOrWithout, Stands}
use Rattle.pg_server.specs.Local.{effect_of}
use Rattle.pg_server.specs.declared.input.Input.{Input}
use Rattle.pg_server.specs.declared.input.Input.TheVariants.{Restart}
use Rattle.pg_saving.specs.Usable.{usable}
use Rattle.pg_saving.specs.declared.loading.Checkpoint.{Checkpoint}
use Rattle.pg_store.specs.Store.{new_store}
use Rattle.pg_store.specs.declared.store.Store.{Store}
pub use Rattle.pg_node_input.specs.Noted.{IsUnread}
use Rattle.pg_host.specs.Entries.{entry_for, input_of}
use Rattle.pg_host.specs.Logs.{AreInputs, IsBadEntry, IsBadLog, IsLogOf, IsOldLog, IsOtherLog, IsStart, Old, begin_entry, begun, is_empty}

-- an entry is that of an input, and is read as it
pub record IsInput (entry : List ℕ) : Type 0 where
  pub input : Input
  pub read : input_of entry ≡ Ok input
  pub spelled : entry ≡ entry_for input

-- The first entries are those of inputs. The gates before the first and behind the last of them
-- stand there.
pub record IsReadTo (entries : List (List ℕ)) (k from gate : ℕ) : Type 0 where
  pub done : List Input
  pub read : AreInputs (take k entries) done
  pub gate_is : gate ≡ from + length (blocks (take k entries))

-- a server took them, but for the first, so many, which it only read
pub record IsFoldedTo (entries : List (List ℕ)) (skip k from gate : ℕ)
    (s0 s1 : Store) : Type 0 where
  pub done : List Input
  pub read : AreInputs (take k entries) done
  pub gate_is : gate ≡ from + length (blocks (take k entries))
  pub store : s1 ≡ store_behind s0 (drop skip done)

-- a server took all of them but these
pub record IsFold (entries : List (List ℕ)) (skip : ℕ) (s0 s1 : Store) : Type 0 where
  pub inputs : List Input
  pub read : AreInputs entries inputs
  pub store : s1 ≡ store_behind s0 (drop skip inputs)

-- memory ran out, or one of these entries is no input's: the gate before the first stands there
pub record IsBadIn (from : ℕ) (entries : List (List ℕ)) (e : Status) : Type 0 where
  pub before : List (List ℕ)
  pub entry : List ℕ
  pub behind : List (List ℕ)
  pub whole : entries ≡ before ++ entry ∷ behind
  pub inputs : List Input
  pub read : AreInputs before inputs
  pub at : ℕ
  pub bad : input_of entry ≡ Err at
  pub is : e ≡ status.BadLog (from + length (blocks before) + (5 + at))

abbrev pub IsUnfolded : ℕ → List (List ℕ) → Status → Type 0
IsUnfolded from entries e = (e ≡ status.OutOfMemory) ⊎ IsBadIn from entries e

-- the k-th input was taken, but for the first, so many
abbrev pub IsTakenBehind : (k skip : ℕ) → Store → Input → Store → Type 0
IsTakenBehind k skip s0 input s1 = ((k < skip) × (s1 ≡ s0))
    ⊎ ((skip ≤ k) × (s1 ≡ (effect_of s0 input).store))

-- a server that goes on from a checkpoint skips the inputs that are folded in it; a new one takes
-- all
abbrev pub IsOn : (server servers : ℕ) → Option Checkpoint → Store → (skip : ℕ) → Type 0
IsOn server servers None s skip = (s ≡ new_store servers server) × (skip ≡ 0)
IsOn server servers (Some c) s skip = (s ≡ c.store) × (skip ≡ c.folded - 1)

-- a server took the inputs of its log, with this first entry and these later ones, but for the
-- first, so many, and then a restart
pub record IsLogFold (server servers : ℕ) (first : List ℕ) (later : List (List ℕ)) (skip : ℕ)
    (s0 s1 : Store) : Type 0 where
  pub start : IsStart server servers first
  pub behind : Store
  pub fold : IsFold later skip s0 behind
  pub restarted : s1 ≡ (effect_of behind Restart).store

-- the server with which a log is gone on, from a checkpoint or from none
pub record IsFolded (server servers : ℕ) (checkpoint : Option Checkpoint) (entries : List (List ℕ))
    (store : Store) : Type 0 where
  pub old : Old
  pub is : IsOldLog server servers old entries
  pub store_is : store ≡ begun server servers checkpoint old

-- entries are the log of another
pub record AreOther (server servers a b : ℕ) (entries : List (List ℕ)) : Type 0 where
  pub inputs : List Input
  pub is : IsLogOf a b inputs entries
  pub another : (a ≡ server) × (b ≡ servers) → ⊥

-- why entries are no log to go on with
abbrev pub IsNoFold : ℕ → ℕ → List (List ℕ) → Status → Type 0
IsNoFold server servers entries e = (e ≡ status.OutOfMemory)
    ⊎ (((place : ℕ) × (e ≡ status.BadLog place) × IsBadEntry entries place)
    ⊎ ((a b : ℕ) × (e ≡ status.OtherLog a b) × AreOther server servers a b entries))

-- A start is done: the log that was found has the entry more that a start appends, so many in all.
pub record Started (dt : Type 0) (server servers : ℕ) (d0 d1 : Told) (log : Option ℕ)
    (store : Store)
    (count : ℕ) : Type 0 where
  pub entries : List (List ℕ)
  pub opened : dt → OpensTo (given d0 0) entries
  pub checkpoint : Option Checkpoint
  pub loaded : dt → (slot : Option Slot) × Loads d0 slot
      × (checkpoint ≡ usable server servers (length entries) slot)
  pub folded : IsFolded server servers checkpoint entries store
  pub stands : dt → Stands log d1 (entries ++ begin_entry server servers (is_empty entries) ∷ [])
  pub counted : count ≡ length entries + 1

-- why a start was not done
abbrev pub IsUnstarted : Type 0 → (server servers : ℕ) → List ℕ → (before now : ℕ) → Status → Type 0
IsUnstarted dt server servers file before now e = (e ≡ status.OutOfMemory)
    ⊎ (((e ≡ status.DiskFault) × Rose before now)
    ⊎ (((place : ℕ) × (e ≡ status.BadLog place) × (dt → IsBadLog file place))
    ⊎ ((a b : ℕ) × (e ≡ status.OtherLog a b) × (dt → IsOtherLog server servers a b file))))

-- what a crash leaves at each moment of a start
abbrev pub LeavesAtStart : ℕ → ℕ → Told → Told → Type 0
LeavesAtStart server servers d0 d1 = IsSettled (steps d0 0) → (entries : List (List ℕ))
    → OpensTo (given d0 0) entries → LeavesSince 0 d0 d1
    (OpensWithOrWithout entries (begin_entry server servers (is_empty entries)))
