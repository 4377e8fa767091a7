use Rattle.std.proofs.Common.{◌≡◌, take, true}
use Rattle.std.specs.List.{list_all}
use Rattle.pg_state_read.specs.Whole.{is_entry_in_time}
use Rattle.pg_state_read.proofs.time.are_entries_in_time.Given as goal

abbrev pub invariant-loop-entry : goal.invariant-loop-entry
invariant-loop-entry l = list_all (is_entry_in_time l.last) (take l.entry-index l.entries) ≡ true
