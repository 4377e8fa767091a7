use Rattle.std.proofs.Common.{[], None}
use Rattle.std.proofs.lemmas.Result.{err_from_is_err_and}
use Rattle.pg_base.specs.Id.{file_cmp}
use Rattle.pg_base.proofs.Orders.{file_total}
use Rattle.pg_packet_fields.specs.Lists.{many}
use Rattle.pg_packet_fields.proofs.Loop.{ends, goes_on, is_done}
use Rattle.pg_state_read.specs.Later.{to_wished, wish_at}
use Rattle.pg_state_fields.proofs.Lasts.{insert_last, up_more}
use Rattle.pg_state_read.proofs.later.read_each_wish.Goals as goal

pub returns-in_err-wished : goal.returns-in_err-wished
returns-in_err-wished c =
    let p = err_from_is_err_and c.from_residual.result c.from_residual.ensures.1 in
    rw (p.1, p.2) (ends c.in_err-wished.field-0.0 wish_at to_wished c.args.count c.loop.counter c.loop.last c.loop.wishes c.loop.reader (many wish_at to_wished c.args.count None [] c.args.reader.now) c.loop-test.true c.in_err-wished.ensures.read c.loop.invariant.0)

pub loop-preserved : goal.loop-preserved
loop-preserved c =
    let behind = c.in_ok-wished.ensures.behind in
    rw (c.in_ok-put.ensures.ok, insert_last file_cmp c.in_ok-wished.wished.0 c.in_ok-wished.wished.1 c.loop.wishes (c.loop.invariant.1 c.in_ok-wished.wished.0 behind)) (
      goes_on wish_at to_wished c.args.count c.loop.counter c.loop.last c.loop.wishes c.loop.reader c.in_ok-wished.wished c.read_wish.new.reader (many wish_at to_wished c.args.count None [] c.args.reader.now) c.loop-test.true c.in_ok-wished.ensures.read c.loop.invariant.0,
      up_more file_cmp file_total c.loop.last c.in_ok-wished.wished.0 c.in_ok-wished.wished.1 c.loop.wishes c.loop.invariant.1 behind,
    )

pub returns : goal.returns
returns c = is_done wish_at to_wished c.args.count c.loop.counter c.loop.last c.loop.wishes c.loop.reader (many wish_at to_wished c.args.count None [] c.args.reader.now) c.loop-test.false c.loop.invariant.0
