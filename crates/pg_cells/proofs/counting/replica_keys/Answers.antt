use Rattle.std.proofs.Common.{ap, drop}
use Rattle.std.proofs.lemmas.List.{drop_all}
use Rattle.pg_cells.specs.Counts.{edge_keys}
use Rattle.pg_cells.proofs.Counted.{counted_all}
use Rattle.pg_cells.proofs.counting.replica_keys.Goals as goal

pub returns : goal.returns
returns c =
    let i = c.loop-edge.edge-index in
    let es = c.as_slice-edge-items.result.now in
    counted_all c.loop-edge.count (edge_keys (drop i es)) (edge_keys c.args.replica.now.edges) c.loop-edge.invariant.0
    (ap edge_keys (drop_all i es c.loop-edge-test.false)) c.loop-edge.invariant.1
