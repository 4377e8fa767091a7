use Rattle.std.proofs.Common.{◌≡◌}
use Rattle.std.specs.Vec.Iter.{into_iter_items}
use Rattle.pg_state_read.specs.Whole.{with_all_held, with_replicas}
use Rattle.pg_state_read.proofs.whole.put_all_held.Given as goal

abbrev pub invariant-loop-held : goal.invariant-loop-held
invariant-loop-held l = (with_all_held l.names (into_iter_items l.held-iterator) ≡ with_all_held l.fn.names l.fn.all)
    × (with_replicas l.replicas (into_iter_items l.held-iterator) ≡ with_replicas l.fn.replicas l.fn.all)
