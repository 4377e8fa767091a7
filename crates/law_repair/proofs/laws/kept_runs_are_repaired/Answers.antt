use Rattle.law_repair.proofs.Repairs.{kept_agree, kept_back, kept_listed, kept_tree}
use Rattle.law_repair.proofs.laws.kept_runs_are_repaired.Goals as goal

pub returns-clause-agree : goal.returns-clause-agree
returns-clause-agree c = kept_agree

pub returns-clause-tree : goal.returns-clause-tree
returns-clause-tree c = kept_tree

pub returns-clause-listed : goal.returns-clause-listed
returns-clause-listed c = kept_listed

pub returns-clause-back : goal.returns-clause-back
returns-clause-back c = kept_back
