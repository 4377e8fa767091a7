use Rattle.std.proofs.Common.{◌≡◌}
use Rattle.std.specs.Vec.Iter.{into_iter_items}
use Rattle.pg_state_read.specs.Whole.{with_entries}
use Rattle.pg_state_read.proofs.whole.put_entries.Given as goal

abbrev pub invariant-loop-entry : goal.invariant-loop-entry
invariant-loop-entry l = with_entries l.dir l.names (into_iter_items l.entry-iterator) ≡ with_entries l.dir l.fn.names l.fn.entries
