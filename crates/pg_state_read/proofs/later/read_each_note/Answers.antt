use Rattle.std.proofs.Common.{[], None}
use Rattle.std.proofs.lemmas.Result.{err_from_is_err_and}
use Rattle.pg_announced.specs.Announced.{key_cmp}
use Rattle.pg_announced.proofs.Keys.{key_total}
use Rattle.pg_packet_fields.specs.Lists.{many}
use Rattle.pg_packet_fields.proofs.Loop.{ends, goes_on, is_done}
use Rattle.pg_state_read.specs.Later.{note_at, to_noted}
use Rattle.pg_state_fields.proofs.Lasts.{insert_last, up_more}
use Rattle.pg_state_read.proofs.later.read_each_note.Goals as goal

pub returns-in_err-noted : goal.returns-in_err-noted
returns-in_err-noted c =
    let p = err_from_is_err_and c.from_residual.result c.from_residual.ensures.1 in
    rw (p.1, p.2) (ends c.in_err-noted.field-0.0 note_at to_noted c.args.count c.loop.counter c.loop.last c.loop.notes c.loop.reader (many note_at to_noted c.args.count None [] c.args.reader.now) c.loop-test.true c.in_err-noted.ensures.read c.loop.invariant.0)

pub loop-preserved : goal.loop-preserved
loop-preserved c =
    let behind = c.in_ok-noted.ensures.behind in
    rw (c.in_ok-put.ensures.ok, insert_last key_cmp c.in_ok-noted.noted.0 c.in_ok-noted.noted.1 c.loop.notes (c.loop.invariant.1 c.in_ok-noted.noted.0 behind)) (
      goes_on note_at to_noted c.args.count c.loop.counter c.loop.last c.loop.notes c.loop.reader c.in_ok-noted.noted c.read_note.new.reader (many note_at to_noted c.args.count None [] c.args.reader.now) c.loop-test.true c.in_ok-noted.ensures.read c.loop.invariant.0,
      up_more key_cmp key_total c.loop.last c.in_ok-noted.noted.0 c.in_ok-noted.noted.1 c.loop.notes c.loop.invariant.1 behind,
    )

pub returns : goal.returns
returns c = is_done note_at to_noted c.args.count c.loop.counter c.loop.last c.loop.notes c.loop.reader (many note_at to_noted c.args.count None [] c.args.reader.now) c.loop-test.false c.loop.invariant.0
