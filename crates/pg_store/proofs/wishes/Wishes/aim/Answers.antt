use Rattle.std.proofs.Common.{ap, sym, ◌∙◌}
use Rattle.pg_base.proofs.Orders.{file_order_is}
use Rattle.pg_store.specs.Wishes.{WishesValue, aim_wish}
use Rattle.pg_store.proofs.Wanted.{aim_there, sorted_set}
use Rattle.pg_store.proofs.wishes.Wishes.aim.Goals as goal

pub invariant_of-self-2 : goal.invariant_of-self-2
invariant_of-self-2 c =
    let w = c.aim.new.self in
    sorted_set _ file_order_is _ _ c.args.file.now w c.self.invariant (c.get_mut.follows.holds w).0

pub returns : goal.returns
returns c =
    let w = c.aim.new.self in
    aim_there _ file_order_is _ _ c.args.file.now c.in-Some.wish.now w c.args.target (sym c.in-Some.ensures.value) (c.get_mut.follows.holds w).0 c.aim.ensures
    ∙ ap (λ (ws : WishesValue). aim_wish ws c.args.file.now c.args.target) c.self.view_is
