use Rattle.std.proofs.Common.{◌≡◌, vec_len}
use Rattle.pg_delta.specs.Kept.{longest_end}
use Rattle.pg_delta.proofs.kept.drop_oldest.Given as goal

abbrev pub invariant-loop-deltas : goal.invariant-loop-deltas
invariant-loop-deltas l = longest_end l.deltas.items ≡ longest_end l.initial.deltas.items

abbrev pub decreases-loop-deltas : goal.decreases-loop-deltas
decreases-loop-deltas l = vec_len l.deltas
