-- With what a server goes on that finds a state in its slots.
use Rattle.std.specs.Prelude.{ℕ, ◌≡◌, ◌==◌, ◌&&◌, ◌≤◌, Bool, Result, Ok, Err, None, Some, nat_le, if◌then◌else◌}
use Rattle.std.specs.declared.option.Option.{Option}
use Rattle.pg_checkpoint.specs.Slots.{Slot}
use Rattle.pg_packet_fields.specs.declared.error.PacketError.{PacketError}
use Rattle.pg_saving.specs.declared.loading.Checkpoint.{Checkpoint}
use Rattle.pg_state.specs.Fits.{FitsState}
use Rattle.pg_state_read.specs.Whole.{state_of}
use Rattle.pg_store.specs.declared.store.Store.{Store}

-- The state is of this server, of so many, and folds an entry at least of a log of so many, and no
-- more than it has.
abbrev pub is_of : (server servers entries folded : ℕ) → Store → Bool
is_of server servers entries folded store = (store.names.server == server)
    && (store.servers == servers) && nat_le 1 folded && nat_le folded entries

abbrev pub usable_store : (server servers entries folded : ℕ) → Result Store PacketError
    → Option Checkpoint
usable_store server servers entries folded (Err e) = None
usable_store server servers entries folded (Ok store) =
    if is_of server servers entries folded store
    then Some (record { folded = folded; store = store }) else None

-- THE CHECKPOINT with which a server goes on over a log of so many entries, by what its slots load
-- to. None where nothing is loaded; where the slot has the number 0, which no saving gives; where
-- the bytes are no state; where the state is of another server, or of other servers; and where none
-- of the log's entries is folded in it, or more than there are.
abbrev pub usable : (server servers entries : ℕ) → Option Slot → Option Checkpoint
usable server servers entries None = None
usable server servers entries (Some slot) = if slot.number == 0 then None
    else usable_store server servers entries slot.folded (state_of slot.state)

-- what holds of it
pub record IsUsable (server servers entries : ℕ) (c : Checkpoint) : Type 0 where
  pub fits : FitsState c.store
  pub own : c.store.names.server ≡ server
  pub all : c.store.servers ≡ servers
  pub some : 1 ≤ c.folded
  pub within : c.folded ≤ entries
