use Rattle.pg_base.proofs.Orders.{file_order_is}
use Rattle.pg_store.proofs.Wanted.{sorted_by}
use Rattle.pg_store.proofs.wishes.Wishes.put.Goals as goal

pub invariant_of-self : goal.invariant_of-self
invariant_of-self c = sorted_by _ file_order_is _ c.insert.ensures.ordered
