use Rattle.std.proofs.Common.{ap, ◌∙◌}
use Rattle.std.specs.declared.cmp.Ordering.{Ordering}
use Rattle.std.specs.Ordering.{is_lt}
use Rattle.pg_unacked.specs.declared.due.Due.{Due}
use Rattle.pg_unacked.proofs.Orders.{due_order_is}
use Rattle.pg_unacked.proofs.list.is_below.Goals as goal

pub returns : goal.returns
returns c =
    c.is_lt.ensures ∙ ap is_lt c.cmp.ensures
    ∙ ap (λ (r : Due → Due → Ordering). is_lt (r c.args.a.now c.args.b.now)) due_order_is
