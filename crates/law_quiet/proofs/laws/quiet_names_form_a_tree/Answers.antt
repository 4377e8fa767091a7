use Rattle.law_quiet.proofs.Servers.{quiet_back, quiet_listed, quiet_tree}
use Rattle.law_quiet.proofs.laws.quiet_names_form_a_tree.Goals as goal

pub returns-clause-tree : goal.returns-clause-tree
returns-clause-tree c = quiet_tree

pub returns-clause-listed : goal.returns-clause-listed
returns-clause-listed c = quiet_listed

pub returns-clause-returned : goal.returns-clause-returned
returns-clause-returned c = quiet_back
