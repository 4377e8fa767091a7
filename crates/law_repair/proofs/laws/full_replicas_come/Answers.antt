use Rattle.law_repair.proofs.Filled.{full_begins}
use Rattle.law_repair.proofs.Said.{full_is_said}
use Rattle.law_repair.proofs.laws.full_replicas_come.Goals as goal

pub returns-clause-begins : goal.returns-clause-begins
returns-clause-begins c = full_begins

pub returns-clause-said : goal.returns-clause-said
returns-clause-said c = full_is_said
