use Rattle.std.proofs.Common.{[], None}
use Rattle.std.proofs.lemmas.Result.{err_from_is_err_and}
use Rattle.pg_packet_fields.specs.Lists.{many}
use Rattle.pg_state_fields.specs.Flags.{entry_at, to_child}
use Rattle.pg_packet_fields.proofs.Loop.{ends, goes_on, is_done}
use Rattle.pg_state_fields.proofs.flags.read_each_entry.Goals as goal

pub returns-in_err-entry : goal.returns-in_err-entry
returns-in_err-entry c =
    let p = err_from_is_err_and c.from_residual.result c.from_residual.ensures.1 in
    rw (p.1, p.2) (ends c.in_err-entry.field-0.0 entry_at to_child c.args.count c.loop.counter c.loop.last c.loop.entries c.loop.reader (many entry_at to_child c.args.count None [] c.args.reader.now) c.loop-test.true c.in_err-entry.ensures c.loop.invariant)

pub loop-preserved : goal.loop-preserved
loop-preserved c =
    rw c.in_ok-push.ensures.ok (goes_on entry_at to_child c.args.count c.loop.counter c.loop.last c.loop.entries c.loop.reader c.in_ok-entry.entry c.read_entry.new.reader (many entry_at to_child c.args.count None [] c.args.reader.now) c.loop-test.true c.in_ok-entry.ensures c.loop.invariant)

pub returns : goal.returns
returns c = is_done entry_at to_child c.args.count c.loop.counter c.loop.last c.loop.entries c.loop.reader (many entry_at to_child c.args.count None [] c.args.reader.now) c.loop-test.false c.loop.invariant
