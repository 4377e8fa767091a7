use Rattle.pg_edges.proofs.Searching.{ordered-one}
use Rattle.pg_edges.proofs.keys.Keys.set.Goals as goal

pub invariant_of-self : goal.invariant_of-self
invariant_of-self c = ordered-one c.args.key c.args.tag
