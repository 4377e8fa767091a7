use Rattle.pg_base.proofs.Orders.{file_order_is}
use Rattle.pg_state.proofs.Beside.{by_ids}
use Rattle.pg_state.proofs.fitting.count_ids.Goals as goal

pub returns-clause-by_id : goal.returns-clause-by_id
returns-clause-by_id c = by_ids _ file_order_is c.args.held.now.entries c.len.ensures.ordered
