use Rattle.std.proofs.Common.{sym, ap, ◌∙◌}
use Rattle.pg_base.proofs.Orders.{file_order_is}
use Rattle.pg_names.specs.Names.{NamesValue, fill, filled}
use Rattle.pg_names.proofs.Writes.{held_put, names_of, update_there}
use Rattle.pg_names.proofs.held.Held.fill.Goals as goal

pub returns : goal.returns
returns c =
    let i = c.self.inside in
    let w = c.fill.new.self in
    let s = names_of i.server i.last i.removed i.held.entries in
    update_there _ file_order_is s _ c.args.file.now filled c.in-Some.held.now w (sym c.in-Some.ensures.value) c.fill.ensures
    (held_put _ file_order_is i.server i.last i.removed i.held.entries (c.get_mut.follows.lender w).entries c.args.file.now w (c.get_mut.follows.holds w).0)
    ∙ ap (λ (x : NamesValue). fill x c.args.file.now) c.self.view_is
