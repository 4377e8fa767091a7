use Rattle.std.proofs.Common.{ap, ◌∙◌}
use Rattle.pg_base.proofs.Orders.{file_order_is}
use Rattle.pg_names.specs.Names.{NamesValue, let_go}
use Rattle.pg_names.proofs.Going.{of_parts, taken_out}
use Rattle.pg_names.proofs.held.Held.let_go.Goals as goal

pub returns : goal.returns
returns c =
    let s = c.self.inside in
    ap (of_parts s.server s.last s.removed)
    (taken_out _ file_order_is _ _ c.args.file.now c.len-held.ensures.ordered c.remove.ensures.ordered c.remove.ensures.updates.0)
    ∙ ap (λ (n : NamesValue). let_go n c.args.file.now) c.self.view_is
