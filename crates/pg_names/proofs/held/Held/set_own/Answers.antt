use Rattle.std.proofs.Common.{sym, ap, ◌∙◌}
use Rattle.pg_base.proofs.Orders.{file_order_is}
use Rattle.pg_names.specs.Names.{NamesValue, set_own, with_own}
use Rattle.pg_names.proofs.Writes.{held_put, names_of, update_there}
use Rattle.pg_names.proofs.held.Held.set_own.Goals as goal

pub returns : goal.returns
returns c =
    let i = c.self.inside in
    let w = c.set_own.new.self in
    let s = names_of i.server i.last i.removed i.held.entries in
    update_there _ file_order_is s _ c.args.file.now (with_own c.args.own) c.in-Some.held.now w (sym c.in-Some.ensures.value) c.set_own.ensures
    (held_put _ file_order_is i.server i.last i.removed i.held.entries (c.get_mut.follows.lender w).entries c.args.file.now w (c.get_mut.follows.holds w).0)
    ∙ ap (λ (x : NamesValue). set_own x c.args.file.now c.args.own) c.self.view_is
