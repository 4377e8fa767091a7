use Rattle.pg_edges.proofs.Searching.{take_at}
use Rattle.pg_edges.proofs.many.Many.remove.Goals as goal

pub invariant_of-self : goal.invariant_of-self
invariant_of-self c = take_at c.self.inside.tags.items c.args.self.now c.remove.new.self.items c.args.key.now c.in-Ok.at c.self.invariant c.self.view_is c.in-Ok.ensures.found c.remove.ensures.items
