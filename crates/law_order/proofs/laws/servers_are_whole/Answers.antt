use Rattle.law_order.proofs.Told.{first_effects_ordered, first_effects_whole, names_by_id, servers_whole}
use Rattle.law_order.proofs.laws.servers_are_whole.Goals as goal

pub returns-clause-whole : goal.returns-clause-whole
returns-clause-whole c = servers_whole

pub returns-clause-first : goal.returns-clause-first
returns-clause-first c = first_effects_whole

pub returns-clause-ordered : goal.returns-clause-ordered
returns-clause-ordered c = first_effects_ordered

pub returns-clause-order : goal.returns-clause-order
returns-clause-order c = names_by_id
