use Rattle.pg_intent.proofs.Orders.{key_total, ties}
use Rattle.pg_intent.proofs.laws.keys_are_ordered.Goals as goal

pub returns-clause-total : goal.returns-clause-total
returns-clause-total c = key_total

pub returns-clause-ties : goal.returns-clause-ties
returns-clause-ties c = ties
