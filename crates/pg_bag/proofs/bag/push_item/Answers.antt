use Rattle.pg_bag.proofs.Joining.{push_at}
use Rattle.pg_bag.proofs.bag.push_item.Goals as goal

pub returns-clause-ok : goal.returns-clause-ok
returns-clause-ok g c =
    push_at _ _ _ _ _ _ c.in_ok-last.ensures.last c.open_block.ensures.same c.index_mut-block.ensures.value c.in_ok-push.ensures.ok
