use Rattle.std.proofs.Common.{ap, ◌∙◌}
use Rattle.pg_base.proofs.Orders.{file_order_is}
use Rattle.pg_store.specs.Wishes.{WishesValue, without_wish}
use Rattle.pg_store.proofs.Wanted.{sorted_by, taken_wish}
use Rattle.pg_store.proofs.wishes.Wishes.take.Goals as goal

pub invariant_of-self : goal.invariant_of-self
invariant_of-self c = sorted_by _ file_order_is _ c.remove.ensures.ordered

pub returns-clause-wishes : goal.returns-clause-wishes
returns-clause-wishes c =
    taken_wish _ file_order_is _ _ c.args.file.now c.self.invariant c.remove.ensures.ordered c.remove.ensures.updates.0
    ∙ ap (λ (ws : WishesValue). without_wish ws c.args.file.now) c.self.view_is
