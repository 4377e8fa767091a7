use Rattle.std.proofs.Common.{length}
use Rattle.pg_entries.proofs.Tails.{IsTail}
use Rattle.pg_entries.proofs.tilde.behind_tildes.Given as goal

abbrev pub invariant-loop-behind : goal.invariant-loop-behind
invariant-loop-behind l = IsTail l.text l.rest

abbrev pub decreases-loop-behind : goal.decreases-loop-behind
decreases-loop-behind l = length l.rest
