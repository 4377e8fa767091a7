use Rattle.pg_content.proofs.Covering.{covered_itself, covered_same, covered_sets, covered_trans}
use Rattle.pg_content.proofs.laws.covering_heads_are_the_same.Goals as goal

pub returns-clause-within : goal.returns-clause-within
returns-clause-within c = covered_sets

pub returns-clause-same : goal.returns-clause-same
returns-clause-same c = covered_same

pub returns-clause-reflexive : goal.returns-clause-reflexive
returns-clause-reflexive c = covered_itself

pub returns-clause-transitive : goal.returns-clause-transitive
returns-clause-transitive c = covered_trans
