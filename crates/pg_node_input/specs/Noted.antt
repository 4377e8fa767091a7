-- Inputs of a server as entries of its log, and back.
use Rattle.std.specs.Prelude.{ℕ, ◌≡◌, ◌==◌, ◌≤◌, ◌+◌, ◌⊎◌, List, [], ◌∷◌, length, Bool, false, Result, Ok, Err, if◌then◌else◌}
use Rattle.pg_event.specs.declared.status.Status.{Status}
use Rattle.pg_event.specs.declared.status.Status.TheVariants as status
use Rattle.pg_node_entry.specs.Entries.{FitsEntry, entry_bytes}
use Rattle.pg_node_entry.specs.Reading.{entry_of}
use Rattle.pg_node_entry.specs.declared.entry.NodeEntry.{NodeEntry}
use Rattle.pg_node_entry.specs.declared.entry.NodeEntry.TheVariants as entry
use Rattle.pg_node_entry.specs.declared.error.EntryError.{EntryError}
use Rattle.pg_node_entry.specs.declared.error.EntryError.TheVariants.{OutOfMemory, Bad}
use Rattle.pg_server.specs.declared.input.Input.{Input}
use Rattle.pg_server.specs.declared.input.Input.TheVariants as input

-- ---- written

-- what a log notes of an input
abbrev pub noted_of : Input → NodeEntry
noted_of (input.Call moment call) = entry.Call moment call
noted_of (input.Tick moment word) = entry.Tick moment word
noted_of (input.Arrival packet) = entry.Arrival packet
noted_of input.Restart = entry.Restart

-- THE ENTRY of an input
abbrev pub entry_for : Input → List ℕ
entry_for i = entry_bytes (noted_of i)

-- the entry by which the log of this server, of so many, begins
abbrev pub start_entry : ℕ → ℕ → List ℕ
start_entry server servers = entry_bytes (entry.First server servers)

-- it has a spelling, which a log takes
pub record IsShort (e : NodeEntry) : Type 0 where
  pub fits : FitsEntry e
  pub short : length (entry_bytes e) ≤ 65536

-- ---- read

-- what begins as the first entry of a log does
abbrev pub begins_log : List ℕ → Bool
begins_log [] = false
begins_log (number ∷ bytes) = number == 5

-- the input that an entry notes; a log begins but once
abbrev pub input_noted : NodeEntry → Result Input ℕ
input_noted (entry.Call moment call) = Ok (input.Call moment call)
input_noted (entry.Tick moment word) = Ok (input.Tick moment word)
input_noted (entry.Arrival packet) = Ok (input.Arrival packet)
input_noted entry.Restart = Ok input.Restart
input_noted (entry.First server servers) = Err 0

abbrev pub input_found : Result NodeEntry EntryError → Result Input ℕ
input_found (Ok e) = input_noted e
input_found (Err (Bad place)) = Err place
input_found (Err OutOfMemory) = Err 0

-- THE INPUT OF AN ENTRY behind the first, or the place in the entry from which on it is none
abbrev pub input_of : List ℕ → Result Input ℕ
input_of bytes = if begins_log bytes then Err 0 else input_found (entry_of bytes)

-- the server that is noted, and of how many it is
abbrev pub start_noted : NodeEntry → Result (ℕ × ℕ) ℕ
start_noted (entry.First server servers) = Ok (server, servers)
start_noted other = Err 0

abbrev pub start_found : Result NodeEntry EntryError → Result (ℕ × ℕ) ℕ
start_found (Ok e) = start_noted e
start_found (Err (Bad place)) = Err place
start_found (Err OutOfMemory) = Err 0

-- WHOSE LOG begins with this entry, or the place in the entry from which on no log begins so
abbrev pub start_of : List ℕ → Result (ℕ × ℕ) ℕ
start_of bytes = if begins_log bytes then start_found (entry_of bytes) else Err 0

-- the entry by which a log of this server, of so many, begins
pub record IsStart (server servers : ℕ) (entry : List ℕ) : Type 0 where
  pub spelled : entry ≡ start_entry server servers
  pub read : start_of entry ≡ Ok (server, servers)

-- memory ran out, or what was to be found in an entry was not: the gate before it stands there
abbrev pub IsUnread : {X : Type 0} → ℕ → Result X ℕ → Status → Type 0
IsUnread gate found e = (e ≡ status.OutOfMemory)
    ⊎ ((at : ℕ) × (found ≡ Err at) × (e ≡ status.BadLog (gate + (5 + at))))
