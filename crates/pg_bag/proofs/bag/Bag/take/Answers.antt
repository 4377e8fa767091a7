use Rattle.std.proofs.Common.{◌∙◌, ap}
use Rattle.std.specs.List.{remove}
use Rattle.pg_bag.proofs.Joining.{at_blocks, item_at, without_at}
use Rattle.pg_bag.proofs.bag.Bag.take.Goals as goal

pub returns-clause-item : goal.returns-clause-item
returns-clause-item g c =
    item_at _ _ _ _ _ _ c.self.view_is (at_blocks _ _ _ _ _ c.as_slice.ensures.value c.in_ok-block.ensures.found)
    c.take_item.ensures.item

pub returns-clause-rest : goal.returns-clause-rest
returns-clause-rest g c =
    c.take_item.ensures.rest
    ∙ without_at _ _ _ _ (at_blocks _ _ _ _ _ c.as_slice.ensures.value c.in_ok-block.ensures.found)
    ∙ ap (λ xs. remove xs c.args.index) c.self.view_is
