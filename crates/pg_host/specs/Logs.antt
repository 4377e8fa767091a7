-- Files that are logs of a server.
use Rattle.std.specs.Prelude.{ℕ, ◌≡◌, ◌==◌, ◌+◌, ◌-◌, ◌≤◌, ◌⊎◌, List, [], ◌∷◌, ◌++◌, map, length, take, drop, Bool, true, false, Some, None, Ok, Err}
use Rattle.std.specs.declared.option.Option.{Option}
use Rattle.pg_node_input.specs.law_lengths.Laws.{store_behind}
use Rattle.pg_checkpoint.specs.Loads.{LoadsTo}
use Rattle.pg_checkpoint.specs.Slots.{Slot}
use Rattle.pg_disk.specs.Disk.{IsSettled}
use Rattle.pg_disk.specs.Told.{Told, given, steps}
use Rattle.pg_disk.specs.Moments.{LeavesSince}
use Rattle.pg_disk.specs.Synced.{KeepsOthers}
use Rattle.pg_log.specs.Bytes.{OpensTo, IsBadAt, front}
use Rattle.pg_saving.specs.Usable.{usable}
use Rattle.pg_saving.specs.declared.loading.Checkpoint.{Checkpoint}
use Rattle.pg_server.specs.declared.input.Input.{Input}
use Rattle.pg_server.specs.declared.input.Input.TheVariants.{Restart}
use Rattle.pg_server.specs.Local.{effect_of}
use Rattle.pg_store.specs.Store.{new_store}
use Rattle.pg_store.specs.declared.store.Store.{Store}
use Rattle.pg_host.specs.declared.asking.Asked.{Asked}
pub use Rattle.pg_node_input.specs.Noted.{IsStart}
use Rattle.pg_host.specs.Entries.{entry_for, input_of, start_entry, start_of}

-- the entries of these inputs, and each is read as its input
pub record AreInputs (entries : List (List ℕ)) (inputs : List Input) : Type 0 where
  pub spelled : entries ≡ map entry_for inputs
  pub read : map input_of entries ≡ map Ok inputs

-- ---- the log of a server

-- the entries of a log of this server, of so many, with these inputs
pub record IsLogOf (server servers : ℕ) (inputs : List Input)
    (entries : List (List ℕ)) : Type 0 where
  pub first : List ℕ
  pub later : List (List ℕ)
  pub whole : entries ≡ first ∷ later
  pub start : IsStart server servers first
  pub are : AreInputs later inputs

-- THE LOG OF ANOTHER: a good log of server `a` of `b`, which is not this server, of so many
pub record IsOtherLog (server servers a b : ℕ) (file : List ℕ) : Type 0 where
  pub entries : List (List ℕ)
  pub opens : OpensTo file entries
  pub inputs : List Input
  pub is : IsLogOf a b inputs entries
  pub another : (a ≡ server) × (b ≡ servers) → ⊥

-- ---- a bad log

-- entries with which some server's log begins
abbrev pub AreGood : List (List ℕ) → Type 0
AreGood [] = Unit {0}
AreGood (first ∷ later) = ((server servers : ℕ) × IsStart server servers first)
    × ((inputs : List Input) × AreInputs later inputs)

-- behind them no log goes on with this entry, from this place in it on
abbrev pub IsBadBehind : List (List ℕ) → List ℕ → ℕ → Type 0
IsBadBehind [] entry at = start_of entry ≡ Err at
IsBadBehind (first ∷ later) entry at = input_of entry ≡ Err at

-- The first bad entry. `place` is counted in the file, where the gate, the length and the bytes of
-- the entry stand behind the entries before it.
pub record IsBadEntry (entries : List (List ℕ)) (place : ℕ) : Type 0 where
  pub before : List (List ℕ)
  pub entry : List ℕ
  pub behind : List (List ℕ)
  pub whole : entries ≡ before ++ entry ∷ behind
  pub good : AreGood before
  pub at : ℕ
  pub bad : IsBadBehind before entry at
  pub place_is : place ≡ length (front before) + (5 + at)

-- A BAD LOG: the file is no log of entries from this place on, or the first bad entry is bad there
abbrev pub IsBadLog : List ℕ → ℕ → Type 0
IsBadLog file place =
    IsBadAt file place
    ⊎ ((entries : List (List ℕ)) × OpensTo file entries × IsBadEntry entries place)

-- ---- what a server begins with

-- the inputs of an old log, or none where there is no entry
abbrev pub Old : Type 0
Old = Option (List Input)

abbrev pub IsOldLog : (server servers : ℕ) → Old → List (List ℕ) → Type 0
IsOldLog server servers None entries = entries ≡ []
IsOldLog server servers (Some inputs) entries = IsLogOf server servers inputs entries

-- the file opens to these
pub record IsOldFile (server servers : ℕ) (old : Old) (file : List ℕ) : Type 0 where
  pub entries : List (List ℕ)
  pub opens : OpensTo file entries
  pub is : IsOldLog server servers old entries

-- A LOG TO GO ON WITH: one without entries, or one of this server, of so many
abbrev pub IsOwnLog : (server servers : ℕ) → List ℕ → Type 0
IsOwnLog server servers file = (old : Old) × IsOldFile server servers old file

-- how many entries a log with these inputs has
abbrev pub count_of : Old → ℕ
count_of None = 0
count_of (Some inputs) = length inputs + 1

-- What a server holds behind the inputs of its log that goes on from a checkpoint, or from nothing.
-- It takes those whose entries are not folded in the checkpoint; the log's first entry is no
-- input's.
abbrev pub folded_on : (server servers : ℕ) → Option Checkpoint → List Input → Store
folded_on server servers None inputs = store_behind (new_store servers server) inputs
folded_on server servers (Some c) inputs = store_behind c.store (drop (c.folded - 1) inputs)

-- WHAT THE SERVER HOLDS as it begins: what went out before is not sent again
abbrev pub begun : ℕ → ℕ → Option Checkpoint → Old → Store
begun server servers checkpoint None = new_store servers server
begun server servers checkpoint (Some inputs) =
    (effect_of (folded_on server servers checkpoint inputs) Restart).store

-- What it finds: the log has these inputs, and it goes on from this checkpoint, which the slots
-- that are loaded give over a log of so many entries, or from none.
pub record IsFound (server servers : ℕ) (checkpoint : Option Checkpoint) (old : Old)
    (log first second : List ℕ) : Type 0 where
  pub entries : List (List ℕ)
  pub opens : OpensTo log entries
  pub is : IsOldLog server servers old entries
  pub slot : Option Slot
  pub loads : LoadsTo first second slot
  pub checkpoint_is : checkpoint ≡ usable server servers (length entries) slot

-- the inputs of a log that a server went on with, and took these inputs
abbrev pub goes_on : Old → List Asked → Old
goes_on None own = Some (map (λ (a : Asked). a.input) own)
goes_on (Some inputs) own = Some (inputs ++ Restart ∷ map (λ (a : Asked). a.input) own)

abbrev pub is_empty : List (List ℕ) → Bool
is_empty entries = length entries == 0

-- the entry that a server appends as it begins, to a log without entries or to one with some
abbrev pub begin_entry : ℕ → ℕ → Bool → List ℕ
begin_entry server servers true = start_entry server servers
begin_entry server servers false = entry_for Restart

-- the file opens to these entries and the first of the others
abbrev pub OpensToSome : List (List ℕ) → List (List ℕ) → List ℕ → Type 0
OpensToSome entries more file = (k : ℕ) × (k ≤ length more) × OpensTo file (entries ++ take k more)

-- ---- a log that a server does not go on with

-- What stood behind the closed gate of the log with these entries, which nothing reads, was cut
-- off, and a crash leaves just the rest now. At each moment between it leaves a log with these
-- entries.
pub record IsCutBehind (entries : List (List ℕ)) (old new : Told) : Type 0 where
  pub opens : OpensTo (given old 0) entries
  pub cut : given new 0 ≡ take (length (front entries) + 1) (given old 0)
  pub settled : IsSettled (steps new 0)
  pub moments : IsSettled (steps old 0) → LeavesSince 0 old new (λ file. OpensTo file entries)
  pub others : KeepsOthers 0 old new

-- THE LOG IS LEFT AS IT WAS: nothing was done on the disk, or nothing but that was cut off
abbrev pub LeavesLog : Told → Told → Type 0
LeavesLog old new = (new ≡ old) ⊎ ((entries : List (List ℕ)) × IsCutBehind entries old new)
