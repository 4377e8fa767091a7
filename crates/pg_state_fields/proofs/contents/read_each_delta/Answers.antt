use Rattle.std.proofs.Common.{[]}
use Rattle.std.proofs.lemmas.Result.{err_from_is_err_and}
use Rattle.pg_packet_fields.specs.Lists.{many}
use Rattle.pg_state_fields.specs.Contents.{any_delta}
use Rattle.pg_state_fields.specs.Orders.{unchanged}
use Rattle.pg_packet_fields.proofs.Loop.{ends, goes_on, is_done}
use Rattle.pg_state_fields.proofs.contents.read_each_delta.Goals as goal

pub returns-in_err-delta : goal.returns-in_err-delta
returns-in_err-delta c =
    let p = err_from_is_err_and c.from_residual.result c.from_residual.ensures.1 in
    rw (p.1, p.2) (ends c.in_err-delta.field-0.0 any_delta unchanged c.args.count c.loop.counter tt c.loop.deltas c.loop.reader (many any_delta unchanged c.args.count tt [] c.args.reader.now) c.loop-test.true c.in_err-delta.ensures c.loop.invariant)

pub loop-preserved : goal.loop-preserved
loop-preserved c =
    rw c.in_ok-push.ensures.ok (goes_on any_delta unchanged c.args.count c.loop.counter tt c.loop.deltas c.loop.reader c.in_ok-delta.delta c.read_delta.new.reader (many any_delta unchanged c.args.count tt [] c.args.reader.now) c.loop-test.true c.in_ok-delta.ensures c.loop.invariant)

pub returns : goal.returns
returns c = is_done any_delta unchanged c.args.count c.loop.counter tt c.loop.deltas c.loop.reader (many any_delta unchanged c.args.count tt [] c.args.reader.now) c.loop-test.false c.loop.invariant
