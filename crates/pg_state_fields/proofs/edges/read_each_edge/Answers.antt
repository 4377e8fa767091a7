use Rattle.std.proofs.Common.{[]}
use Rattle.std.proofs.lemmas.Result.{err_from_is_err_and}
use Rattle.pg_packet_fields.specs.Lists.{many}
use Rattle.pg_packet_fields.proofs.Loop.{ends, goes_on, is_done}
use Rattle.pg_state_fields.specs.Edges.{edge_at, to_peer}
use Rattle.pg_state_fields.proofs.EdgesLast.{put_last, up_more}
use Rattle.pg_state_fields.proofs.edges.read_each_edge.Goals as goal

pub returns-in_err-edge : goal.returns-in_err-edge
returns-in_err-edge c =
    let p = err_from_is_err_and c.from_residual.result c.from_residual.ensures.1 in
    rw (p.1, p.2) (ends c.in_err-edge.field-0.0 edge_at to_peer c.args.count c.loop.counter c.loop.last c.loop.edges c.loop.reader (many edge_at to_peer c.args.count 0 [] c.args.reader.now) c.loop-test.true c.in_err-edge.ensures.read c.loop.invariant.0)

pub loop-preserved : goal.loop-preserved
loop-preserved c =
    let above = c.in_ok-edge.ensures.above in
    rw (c.in_ok-put.ensures.ok, put_last c.loop.last c.in_ok-edge.edge c.loop.edges c.loop.invariant.1 above) (
      goes_on edge_at to_peer c.args.count c.loop.counter c.loop.last c.loop.edges c.loop.reader c.in_ok-edge.edge c.read_edge.new.reader (many edge_at to_peer c.args.count 0 [] c.args.reader.now) c.loop-test.true c.in_ok-edge.ensures.read c.loop.invariant.0,
      up_more c.loop.last c.in_ok-edge.edge c.loop.edges c.loop.invariant.1 above,
    )

pub returns : goal.returns
returns c = is_done edge_at to_peer c.args.count c.loop.counter c.loop.last c.loop.edges c.loop.reader (many edge_at to_peer c.args.count 0 [] c.args.reader.now) c.loop-test.false c.loop.invariant.0
