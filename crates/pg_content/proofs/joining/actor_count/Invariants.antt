use Rattle.pg_content.proofs.Joins.{AreCounted}
use Rattle.pg_content.proofs.joining.actor_count.Given as goal

abbrev pub invariant-loop-index : goal.invariant-loop-index
invariant-loop-index l = AreCounted l.versions l.index l.count
