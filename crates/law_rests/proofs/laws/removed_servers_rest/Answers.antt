use Rattle.law_rests.proofs.Resting.{removed_servers_rest}
use Rattle.law_rests.proofs.Under.{none_to_removed}
use Rattle.law_rests.proofs.laws.removed_servers_rest.Goals as goal

pub returns-clause-rests : goal.returns-clause-rests
returns-clause-rests c = removed_servers_rest

pub returns-clause-none : goal.returns-clause-none
returns-clause-none c = none_to_removed
