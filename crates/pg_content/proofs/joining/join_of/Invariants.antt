use Rattle.pg_content.proofs.Joins.{IsJoin}
use Rattle.pg_content.proofs.joining.join_of.Given as goal

abbrev pub invariant-loop-version : goal.invariant-loop-version
invariant-loop-version l = IsJoin l.versions l.version-index l.all
