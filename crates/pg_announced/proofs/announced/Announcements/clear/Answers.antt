use Rattle.pg_announced.proofs.Keys.{key_order_is}
use Rattle.pg_announced.proofs.Sorted.{sorted_by}
use Rattle.pg_announced.proofs.announced.Announcements.clear.Goals as goal

pub invariant_of-self : goal.invariant_of-self
invariant_of-self c = sorted_by _ key_order_is _ c.clear.ensures.ordered
