use Rattle.std.proofs.Common.{◌∙◌, sym}
use Rattle.pg_server.specs.Owing.{edge_owes}
use Rattle.pg_calls.proofs.pg_replica.Lists.{first_at, first_behind}
use Rattle.pg_server.proofs.owing.first_of_replica.Goals as goal

pub returns-in-Some : goal.returns-in-Some
returns-in-Some c =
    sym (c.loop-edge.invariant
    ∙ first_at (edge_owes c.args.server c.args.file) c.as_slice-edge-items.result.now c.loop-edge.edge-index c.edge-item.result c.in-Some.owing c.loop-edge-test.true c.edge-item.is (sym c.in-Some.ensures))

pub loop-edge-preserved : goal.loop-edge-preserved
loop-edge-preserved c =
    c.loop-edge.invariant
    ∙ first_behind (edge_owes c.args.server c.args.file) c.as_slice-edge-items.result.now c.loop-edge.edge-index c.edge-item.result c.loop-edge-test.true c.edge-item.is (sym c.in_default.ensures)
