use Rattle.std.proofs.Common.{◌≡◌, drop}
use Rattle.pg_state_read.specs.Whole.{with_removed}
use Rattle.pg_state_read.proofs.whole.put_removed.Given as goal

abbrev pub invariant-loop-server : goal.invariant-loop-server
invariant-loop-server l = with_removed l.names (drop l.server-index l.removed) ≡ with_removed l.fn.names l.removed
