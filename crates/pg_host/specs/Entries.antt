-- Inputs that came, as entries of a log.
use Rattle.std.specs.Prelude.{ℕ, List, map}
pub use Rattle.pg_node_input.specs.Noted.{IsShort, begins_log, entry_for, input_found, input_noted, input_of, noted_of, start_entry, start_found, start_noted, start_of}
use Rattle.pg_host.specs.declared.asking.Asked.{Asked}

-- the entries of these inputs
abbrev pub entries_for : List Asked → List (List ℕ)
entries_for own = map (λ (a : Asked). entry_for a.input) own
