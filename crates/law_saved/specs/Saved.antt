-- What a node holds, and what it saves of it.
use Rattle.std.specs.Prelude.{ℕ, ◌≡◌, ◌≤◌, ◌<◌, ◌+◌, ◌-◌, ◌*◌, ◌^◌, List, length, take}
use Rattle.std.specs.declared.option.Option.{Option}
use Rattle.pg_checkpoint.specs.Loads.{number_of}
use Rattle.pg_checkpoint.specs.Slots.{Slot}
use Rattle.pg_host.specs.declared.asking.Asked.{Asked}
use Rattle.pg_host.specs.Logs.{IsFound, Old, begun, count_of}
use Rattle.pg_host.specs.Sends.{after_all}
use Rattle.pg_host.specs.Slots.{IsSavedLast, SlotsBehind, between}
use Rattle.pg_saving.specs.declared.loading.Checkpoint.{Checkpoint}
use Rattle.pg_state.specs.Fits.{FitsState}
use Rattle.pg_state.specs.Spelling.{state_bytes}
use Rattle.pg_store.specs.declared.store.Store.{Store}
use Rattle.pg_store.specs.Seen.{server_of}

-- it is of this server, of so many
pub record IsOwn (server servers : ℕ) (store : Store) : Type 0 where
  pub own : server_of store ≡ server
  pub all : store.servers ≡ servers

-- over these files it goes on with this old log, from this checkpoint or from none
abbrev pub GoesOn : ℕ → ℕ → Option Checkpoint → Old → Type 0
GoesOn server servers checkpoint old = (log first second : List ℕ)
    × IsFound server servers checkpoint old log first second

-- WHAT A NODE HOLDS is its own, behind whatever it took since it began
abbrev pub StatesAreOwn : Type 0
StatesAreOwn = (server servers : ℕ) (checkpoint : Option Checkpoint) (old : Old)
    → GoesOn server servers checkpoint old → (own : List Asked)
    → IsOwn server servers (after_all (begun server servers checkpoint old) own)

-- what a node that began so holds behind so many times 1,024 entries that it appended, of which the
-- first is that of its begin
abbrev pub behind : ℕ → ℕ → Option Checkpoint → Old → List Asked → ℕ → Store
behind server servers checkpoint old own k =
    after_all (begun server servers checkpoint old) (take (between * k - 1) own)

-- WHAT IT SAVED LAST: `k` times 1,024 entries were appended, and fewer than 1,024 more
abbrev pub SavesLastWhole : Type 0
SavesLastWhole = (server servers k : ℕ) (checkpoint : Option Checkpoint) (old : Old)
    → GoesOn server servers checkpoint old → (own : List Asked) (was now : Option Slot)
    → 1 ≤ k → between * k ≤ length own + 1 → length own + 1 < between * k + between
    → SlotsBehind server servers 1 (count_of old + 1)
    (begun server servers checkpoint old) was own now
    → FitsState (behind server servers checkpoint old own k)
    → length (state_bytes (behind server servers checkpoint old own k)) < 2 ^ 32
    → number_of was + k < 2 ^ 64
    → IsSavedLast (count_of old + between * k) (behind server servers checkpoint old own k) now
