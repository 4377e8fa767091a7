use Rattle.pg_content.proofs.Ancestry.{ancestry, ancestor_other, ancestor_trans}
use Rattle.pg_content.proofs.Numbers.{vector_is}
use Rattle.pg_content.proofs.laws.ancestry_by_vectors.Goals as goal

pub returns-clause-covers : goal.returns-clause-covers
returns-clause-covers c = ancestry

pub returns-clause-vector : goal.returns-clause-vector
returns-clause-vector c = vector_is

pub returns-clause-transitive : goal.returns-clause-transitive
returns-clause-transitive c = ancestor_trans

pub returns-clause-other : goal.returns-clause-other
returns-clause-other c = ancestor_other
