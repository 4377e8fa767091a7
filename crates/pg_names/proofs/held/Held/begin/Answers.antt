use Rattle.std.proofs.Common.{ap, ◌∙◌}
use Rattle.pg_base.proofs.Orders.{file_order_is}
use Rattle.pg_names.specs.Names.{NamesValue, begin}
use Rattle.pg_names.proofs.Writes.{new_put}
use Rattle.pg_names.proofs.held.Held.begin.Goals as goal

pub returns-clause-ok : goal.returns-clause-ok
returns-clause-ok c =
    let i = c.self.inside in
    new_put _ file_order_is i.server i.last i.removed i.held.entries c.insert.new.self.entries c.args.file c.args.own c.args.full _ c.new-held.ensures c.in_ok-insert.ensures.entries
    ∙ ap (λ (s : NamesValue). begin s c.args.file c.args.own c.args.full) c.self.view_is
