use Rattle.std.proofs.Common.{arith}
use Rattle.pg_bag.proofs.Joining.{without_block, without_set, rest_at}
use Rattle.pg_bag.proofs.bag.take_item.Goals as goal

pub returns-then-left-eq0-clause-rest : goal.returns-then-left-eq0-clause-rest
returns-then-left-eq0-clause-rest g c =
    rw c.remove.ensures.items (without_block _ _ _ _ c.requires.there
    (rest_at _ _ _ _ _ c.requires.there c.requires.within c.index_mut-from.ensures.value c.take-item.ensures.rest)
    (omega arith))

pub returns-else-left-eq0-clause-rest : goal.returns-else-left-eq0-clause-rest
returns-else-left-eq0-clause-rest g c =
    without_set _ _ _ _ c.requires.there
    (rest_at _ _ _ _ _ c.requires.there c.requires.within c.index_mut-from.ensures.value c.take-item.ensures.rest)
