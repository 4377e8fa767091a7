use Rattle.std.proofs.Common.{[], None}
use Rattle.std.proofs.lemmas.Result.{err_from_is_err_and}
use Rattle.pg_packet_fields.specs.Lists.{later_at, many, to_last}
use Rattle.pg_packet_fields.proofs.Loop.{ends, goes_on, is_done}
use Rattle.pg_packet_fields.proofs.lists.read_each_stamp.Goals as goal

pub returns-in_err-stamp : goal.returns-in_err-stamp
returns-in_err-stamp c =
    let p = err_from_is_err_and c.from_residual.result c.from_residual.ensures.1 in
    rw (p.1, p.2) (ends c.in_err-stamp.field-0.0 later_at to_last c.args.count c.loop.counter c.loop.last c.loop.stamps c.loop.reader (many later_at to_last c.args.count None [] c.args.reader.now) c.loop-test.true c.in_err-stamp.ensures c.loop.invariant)

pub loop-preserved : goal.loop-preserved
loop-preserved c =
    rw c.in_ok-push.ensures.ok (goes_on later_at to_last c.args.count c.loop.counter c.loop.last c.loop.stamps c.loop.reader c.in_ok-stamp.stamp c.read_later.new.reader (many later_at to_last c.args.count None [] c.args.reader.now) c.loop-test.true c.in_ok-stamp.ensures c.loop.invariant)

pub returns : goal.returns
returns c = is_done later_at to_last c.args.count c.loop.counter c.loop.last c.loop.stamps c.loop.reader (many later_at to_last c.args.count None [] c.args.reader.now) c.loop-test.false c.loop.invariant
