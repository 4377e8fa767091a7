use Rattle.std.proofs.Common.{[]}
use Rattle.std.proofs.lemmas.Result.{err_from_is_err_and}
use Rattle.pg_packet_fields.specs.Lists.{many}
use Rattle.pg_packet_fields.specs.Places.{to_server}
use Rattle.pg_state_fields.specs.Flags.{gold_at}
use Rattle.pg_packet_fields.proofs.Golds.{joined_last, up_more}
use Rattle.pg_packet_fields.proofs.Loop.{ends, goes_on, is_done}
use Rattle.pg_state_fields.proofs.flags.read_each_gold.Goals as goal

pub returns-in_err-flag : goal.returns-in_err-flag
returns-in_err-flag c =
    let p = err_from_is_err_and c.from_residual.result c.from_residual.ensures.1 in
    rw (p.1, p.2) (ends c.in_err-flag.field-0.0 gold_at to_server c.args.count c.loop.counter c.loop.last c.loop.flags c.loop.reader (many gold_at to_server c.args.count 0 [] c.args.reader.now) c.loop-test.true c.in_err-flag.ensures.read c.loop.invariant.0)

pub loop-preserved : goal.loop-preserved
loop-preserved c =
    let above = c.in_ok-flag.ensures.above in
    rw (c.in_ok-join.ensures.joined, joined_last c.loop.last c.in_ok-flag.flag c.loop.flags c.loop.invariant.1 above) (
      goes_on gold_at to_server c.args.count c.loop.counter c.loop.last c.loop.flags c.loop.reader c.in_ok-flag.flag c.read_gold.new.reader (many gold_at to_server c.args.count 0 [] c.args.reader.now) c.loop-test.true c.in_ok-flag.ensures.read c.loop.invariant.0,
      up_more c.loop.last c.in_ok-flag.flag c.loop.flags c.loop.invariant.1 above,
    )

pub returns : goal.returns
returns c = is_done gold_at to_server c.args.count c.loop.counter c.loop.last c.loop.flags c.loop.reader (many gold_at to_server c.args.count 0 [] c.args.reader.now) c.loop-test.false c.loop.invariant.0
