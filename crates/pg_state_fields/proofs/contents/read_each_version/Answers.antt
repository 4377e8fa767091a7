use Rattle.std.proofs.Common.{[], None}
use Rattle.std.proofs.lemmas.Result.{err_from_is_err_and}
use Rattle.pg_packet_fields.specs.Lists.{many}
use Rattle.pg_state_fields.specs.Contents.{to_stamp, version_at}
use Rattle.pg_packet_fields.proofs.Loop.{ends, goes_on, is_done}
use Rattle.pg_state_fields.proofs.HeadsLast.{order_more, up_more}
use Rattle.pg_state_fields.proofs.contents.read_each_version.Goals as goal

pub returns-in_err-version : goal.returns-in_err-version
returns-in_err-version c =
    let p = err_from_is_err_and c.from_residual.result c.from_residual.ensures.1 in
    rw (p.1, p.2) (record { read = ends c.in_err-version.field-0.0 version_at to_stamp c.args.count c.loop.counter c.loop.last c.loop.heads c.loop.reader (many version_at to_stamp c.args.count None [] c.args.reader.now) c.loop-test.true c.in_err-version.ensures.read c.loop.invariant.0; order = tt })

pub loop-preserved : goal.loop-preserved
loop-preserved c =
    let later = c.in_ok-version.ensures.later in
    rw (c.in_ok-push.ensures.ok, c.stamp_of.ensures) (
      goes_on version_at to_stamp c.args.count c.loop.counter c.loop.last c.loop.heads c.loop.reader c.in_ok-version.version c.read_version.new.reader (many version_at to_stamp c.args.count None [] c.args.reader.now) c.loop-test.true c.in_ok-version.ensures.read c.loop.invariant.0,
      (order_more c.loop.last c.in_ok-version.version c.loop.heads c.loop.invariant.1.0 c.loop.invariant.1.1 later, up_more c.loop.last c.in_ok-version.version c.loop.heads c.loop.invariant.1.1 later),
    )

pub returns : goal.returns
returns c = record { read = is_done version_at to_stamp c.args.count c.loop.counter c.loop.last c.loop.heads c.loop.reader (many version_at to_stamp c.args.count None [] c.args.reader.now) c.loop-test.false c.loop.invariant.0; order = c.loop.invariant.1.0 }
