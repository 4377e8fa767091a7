use Rattle.std.proofs.Common.{◌≤◌, ℕ, [], sym, subst}
use Rattle.std.proofs.lemmas.Result.{err_from_is_err_and}
use Rattle.pg_packet_fields.specs.Lists.{many}
use Rattle.pg_packet_fields.specs.Patches.{part_at, to_room, whole_room}
use Rattle.pg_packet_fields.proofs.Loop.{ends, goes_on, is_done}
use Rattle.pg_packet_fields.proofs.Parts.{next_more, order_more}
use Rattle.pg_packet_fields.proofs.patches.read_each_part.Goals as goal

pub returns-in_err-part : goal.returns-in_err-part
returns-in_err-part c =
    let p = err_from_is_err_and c.from_residual.result c.from_residual.ensures.1 in
    rw (p.1, p.2) (record { read = ends c.in_err-part.field-0.0 (part_at c.args.least) to_room c.args.count c.loop.counter (record { from = c.loop.from; left = c.loop.left }) c.loop.parts c.loop.reader (many (part_at c.args.least) to_room c.args.count whole_room [] c.args.reader.now) c.loop-test.true c.in_err-part.ensures.read c.loop.invariant.0; order = tt })

pub loop-preserved : goal.loop-preserved
loop-preserved c =
    let from = subst (λ (k : ℕ). k ≤ c.in_ok-part.part.offset) c.loop.invariant.2 c.in_ok-part.ensures.from in
    rw (c.in_ok-push.ensures.ok, c.len-long.ensures, c.from.ensures) (
      goes_on (part_at c.args.least) to_room c.args.count c.loop.counter (record { from = c.loop.from; left = c.loop.left }) c.loop.parts c.loop.reader c.in_ok-part.part c.read_part.new.reader (many (part_at c.args.least) to_room c.args.count whole_room [] c.args.reader.now) c.loop-test.true c.in_ok-part.ensures.read c.loop.invariant.0,
      order_more 0 c.args.least c.loop.parts c.in_ok-part.part c.loop.invariant.1 from c.in_ok-part.ensures.some c.in_ok-part.ensures.end,
      sym (next_more 0 c.loop.parts c.in_ok-part.part),
    )

pub returns : goal.returns
returns c = record { read = is_done (part_at c.args.least) to_room c.args.count c.loop.counter (record { from = c.loop.from; left = c.loop.left }) c.loop.parts c.loop.reader (many (part_at c.args.least) to_room c.args.count whole_room [] c.args.reader.now) c.loop-test.false c.loop.invariant.0; order = c.loop.invariant.1 }
