use Rattle.std.proofs.Common.{◌∙◌, ap}
use Rattle.std.specs.List.{slice_get}
use Rattle.pg_bag.proofs.Joining.{at_blocks, item_at, read_at}
use Rattle.pg_bag.proofs.bag.Bag.get.Goals as goal

pub returns : goal.returns
returns g c =
    let at = at_blocks _ _ _ _ _ c.as_slice.ensures.value c.in_ok-block.ensures.found in
    item_at _ _ _ _ _ _ c.self.view_is at
    (c.get.ensures ∙ ap (λ xs. slice_get xs c.in_ok-block.offset) (read_at _ _ _ at.there c.index.ensures))
