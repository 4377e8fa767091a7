use Rattle.pg_content.proofs.Covering.{pointwise, upto_itself, upto_same, upto_trans}
use Rattle.pg_content.proofs.laws.covering_is_pointwise.Goals as goal

pub returns-clause-pointwise : goal.returns-clause-pointwise
returns-clause-pointwise c = pointwise

pub returns-clause-same : goal.returns-clause-same
returns-clause-same c = upto_same

pub returns-clause-reflexive : goal.returns-clause-reflexive
returns-clause-reflexive c = upto_itself

pub returns-clause-transitive : goal.returns-clause-transitive
returns-clause-transitive c = upto_trans
