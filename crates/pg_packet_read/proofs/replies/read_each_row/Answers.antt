use Rattle.std.proofs.Common.{[]}
use Rattle.std.proofs.lemmas.Result.{err_from_is_err_and}
use Rattle.pg_packet_fields.specs.Lists.{many}
use Rattle.pg_packet_fields.proofs.Loop.{ends, goes_on, is_done}
use Rattle.pg_packet_read.specs.Replies.{any_row, unchanged}
use Rattle.pg_packet_read.proofs.replies.read_each_row.Goals as goal

pub returns-in_err-row : goal.returns-in_err-row
returns-in_err-row c =
    let p = err_from_is_err_and c.from_residual.result c.from_residual.ensures.1 in
    rw (p.1, p.2) (ends c.in_err-row.field-0.0 any_row unchanged c.args.count c.loop.counter tt c.loop.rows c.loop.reader (many any_row unchanged c.args.count tt [] c.args.reader.now) c.loop-test.true c.in_err-row.ensures c.loop.invariant)

pub loop-preserved : goal.loop-preserved
loop-preserved c =
    rw c.in_ok-push.ensures.ok (goes_on any_row unchanged c.args.count c.loop.counter tt c.loop.rows c.loop.reader c.in_ok-row.row c.read_row.new.reader (many any_row unchanged c.args.count tt [] c.args.reader.now) c.loop-test.true c.in_ok-row.ensures c.loop.invariant)

pub returns : goal.returns
returns c = is_done any_row unchanged c.args.count c.loop.counter tt c.loop.rows c.loop.reader (many any_row unchanged c.args.count tt [] c.args.reader.now) c.loop-test.false c.loop.invariant
