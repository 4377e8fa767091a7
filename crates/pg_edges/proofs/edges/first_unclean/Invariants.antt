use Rattle.std.proofs.Common.{◌-◌, length}
use Rattle.pg_edges.specs.Edges.{AreCleanBelow}
use Rattle.pg_edges.proofs.edges.first_unclean.Given as goal

abbrev pub invariant-loop-i : goal.invariant-loop-i
invariant-loop-i l = AreCleanBelow l.edges l.i

abbrev pub decreases-loop-i : goal.decreases-loop-i
decreases-loop-i l = length l.initial.edges - l.i
