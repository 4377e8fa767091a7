use Rattle.std.proofs.Common.{ap, sym}
use Rattle.pg_edges.specs.Edges.{peers}
use Rattle.pg_edges.proofs.Lists.{increasing, ascend-same}
use Rattle.pg_edges.proofs.edges.Edges.as_slice.Goals as goal

pub returns-clause-by_peer : goal.returns-clause-by_peer
returns-clause-by_peer c = increasing 0 (peers c.args.self.now) (ascend-same 0 (peers c.self.inside.edges.items) (peers c.args.self.now) (ap peers (sym c.self.view_is)) c.self.invariant.by_peer)
