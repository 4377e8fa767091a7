use Rattle.std.proofs.Common.{[]}
use Rattle.std.proofs.lemmas.Result.{err_from_is_err_and}
use Rattle.pg_packet_fields.specs.Lists.{many}
use Rattle.pg_state_read.specs.Whole.{any_server}
use Rattle.pg_state_fields.specs.Orders.{unchanged}
use Rattle.pg_packet_fields.proofs.Loop.{ends, goes_on, is_done}
use Rattle.pg_state_read.proofs.parts.read_each_server.Goals as goal

pub returns-in_err-server : goal.returns-in_err-server
returns-in_err-server c =
    let p = err_from_is_err_and c.from_residual.result c.from_residual.ensures.1 in
    rw (p.1, p.2) (ends c.in_err-server.field-0.0 any_server unchanged c.args.count c.loop.counter tt c.loop.servers c.loop.reader (many any_server unchanged c.args.count tt [] c.args.reader.now) c.loop-test.true c.in_err-server.ensures c.loop.invariant)

pub loop-preserved : goal.loop-preserved
loop-preserved c =
    rw c.in_ok-push.ensures.ok (goes_on any_server unchanged c.args.count c.loop.counter tt c.loop.servers c.loop.reader c.in_ok-server.server c.read_server.new.reader (many any_server unchanged c.args.count tt [] c.args.reader.now) c.loop-test.true c.in_ok-server.ensures c.loop.invariant)

pub returns : goal.returns
returns c = is_done any_server unchanged c.args.count c.loop.counter tt c.loop.servers c.loop.reader (many any_server unchanged c.args.count tt [] c.args.reader.now) c.loop-test.false c.loop.invariant
