use Rattle.pg_edges.proofs.Lookups.{takes_out}
use Rattle.pg_edges.proofs.laws.take_outs_end_one_edge.Goals as goal

pub returns : goal.returns
returns c = takes_out
