use Rattle.pg_edges.proofs.Searching.{ordered-one}
use Rattle.pg_edges.proofs.keys.with_second.Goals as goal

pub returns-then-is_same-clause-ordered : goal.returns-then-is_same-clause-ordered
returns-then-is_same-clause-ordered c = ordered-one c.args.key c.args.tag
