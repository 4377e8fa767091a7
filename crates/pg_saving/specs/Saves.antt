-- What becomes of the slots where a server saves what it holds.
use Rattle.std.specs.Prelude.{ℕ, ◌≡◌, ◌+◌, ◌<◌, ◌^◌, ◌⊎◌, List, length, None, Some, Ok}
use Rattle.std.specs.declared.option.Option.{Option}
use Rattle.pg_checkpoint.specs.Slots.{Slot}
use Rattle.pg_checkpoint.specs.Loads.{LoadsTo, next, number_of}
use Rattle.pg_state.specs.Fits.{FitsState}
use Rattle.pg_state.specs.Spelling.{state_bytes}
use Rattle.pg_state_read.specs.Whole.{state_of}
use Rattle.pg_store.specs.declared.store.Store.{Store}

-- it is of this server, of so many, and has a spelling
pub record IsSavable (server servers : ℕ) (store : Store) : Type 0 where
  pub own : store.names.server ≡ server
  pub all : store.servers ≡ servers
  pub fits : FitsState store

-- It can be saved over what is loaded: its spelling is short enough for a slot, and a number is
-- left.
pub record CanSave (server servers : ℕ) (store : Store) (was : Option Slot) : Type 0 where
  pub is : IsSavable server servers store
  pub short : length (state_bytes store) < 2 ^ 32
  pub room : number_of was + 1 < 2 ^ 64

-- the slot in which it is saved
abbrev pub saved : ℕ → Store → Option Slot → Slot
saved folded store was = next was folded (state_bytes store)

-- what is saved of it is read again
pub record IsReadAgain (server servers : ℕ) (store : Store) : Type 0 where
  pub own : store.names.server ≡ server
  pub all : store.servers ≡ servers
  pub read : state_of (state_bytes store) ≡ Ok store

-- Behind a saving the slots load to what the server held, with so many entries folded. Where it
-- cannot be saved, they load to what they did.
abbrev pub Saves : (server servers folded : ℕ) → Store → (was now : Option Slot) → Type 0
Saves server servers folded store was now =
    (CanSave server servers store was × IsReadAgain server servers store
    × (now ≡ Some (saved folded store was)))
    ⊎ ((CanSave server servers store was → ⊥) × (now ≡ was))

-- What a crash leaves while it is saved: slots that load as before, or to what the server held,
-- which is read again. Slots that loaded to one with the number 0, which no saving gives, may load
-- to none.
abbrev pub LeavesSaved : (server servers folded : ℕ) → Store → Option Slot
    → (first second : List ℕ) → Type 0
LeavesSaved server servers folded store was first second = LoadsTo first second was
    ⊎ ((IsReadAgain server servers store
    × LoadsTo first second (Some (saved folded store was)))
    ⊎ ((number_of was ≡ 0) × LoadsTo first second None))
