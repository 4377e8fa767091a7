use Rattle.std.proofs.Common.{[], None}
use Rattle.std.proofs.lemmas.Result.{err_from_is_err_and}
use Rattle.pg_packet_fields.specs.Lists.{many}
use Rattle.pg_state_fields.specs.Replicas.{held_at, to_held}
use Rattle.pg_packet_fields.proofs.Loop.{ends, goes_on, is_done}
use Rattle.pg_state_fields.proofs.replicas.read_each_held.Goals as goal

pub returns-in_err-held : goal.returns-in_err-held
returns-in_err-held c =
    let p = err_from_is_err_and c.from_residual.result c.from_residual.ensures.1 in
    rw (p.1, p.2) (ends c.in_err-held.field-0.0 held_at to_held c.args.count c.loop.counter c.loop.last c.loop.all c.loop.reader (many held_at to_held c.args.count None [] c.args.reader.now) c.loop-test.true c.in_err-held.ensures c.loop.invariant)

pub loop-preserved : goal.loop-preserved
loop-preserved c =
    rw c.in_ok-push.ensures.ok (goes_on held_at to_held c.args.count c.loop.counter c.loop.last c.loop.all c.loop.reader c.in_ok-held.held c.read_held.new.reader (many held_at to_held c.args.count None [] c.args.reader.now) c.loop-test.true c.in_ok-held.ensures c.loop.invariant)

pub returns : goal.returns
returns c = is_done held_at to_held c.args.count c.loop.counter c.loop.last c.loop.all c.loop.reader (many held_at to_held c.args.count None [] c.args.reader.now) c.loop-test.false c.loop.invariant
