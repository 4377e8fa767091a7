use Rattle.std.proofs.lemmas.Result.{err_from_is_err_and}
use Rattle.pg_state_read.specs.Whole.{these_at}
use Rattle.pg_state_read.proofs.Marks.{ends, goes_on, is_done}
use Rattle.pg_state_read.proofs.parts.read_these.Goals as goal

pub returns-in_err-read_byte : goal.returns-in_err-read_byte
returns-in_err-read_byte c =
    let p = err_from_is_err_and c.from_residual.result c.from_residual.ensures.1 in
    rw (p.1, p.2) (ends c.in_err-read_byte.field-0.0 c.args.bytes.now c.loop-byte.byte-index _ c.loop-byte.reader (these_at c.args.bytes.now c.args.reader.now) c.loop-byte-test.true c.in_err-read_byte.ensures c.loop-byte.invariant)

pub loop-byte-preserved : goal.loop-byte-preserved
loop-byte-preserved c =
    goes_on c.args.bytes.now c.loop-byte.byte-index _ _ c.loop-byte.reader c.read_byte.new.reader (these_at c.args.bytes.now c.args.reader.now) c.loop-byte-test.true c.in_ok-read_byte.ensures c.loop-byte.invariant

pub returns : goal.returns
returns c = is_done c.args.bytes.now c.loop-byte.byte-index c.loop-byte.reader (these_at c.args.bytes.now c.args.reader.now) c.loop-byte-test.false c.loop-byte.invariant
