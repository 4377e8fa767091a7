use Rattle.std.proofs.Common.{subst, sym, ◌∙◌}
use Rattle.pg_unacked.specs.Place.{IsAt}
use Rattle.pg_unacked.proofs.Places.{ordered_filter}
use Rattle.pg_unacked.proofs.list.DueList.remove.Goals as goal

pub invariant_of-self : goal.invariant_of-self
invariant_of-self c =
    let at = subst (λ ds. IsAt ds c.args.due.now c.in-Ok.at) (sym c.self.view_is) c.in-Ok.ensures.found in
    ordered_filter _ c.self.inside.dues.items c.remove.new.self.items c.self.invariant (c.remove.ensures.items ∙ at.take_out)
