use Rattle.std.proofs.Common.{◌≡◌, ◌+◌, decimal, length, arith}
use Rattle.pg_packet_write.proofs.Lengths.{digit_more, digits_few, one_digit}
use Rattle.pg_packet_write.proofs.calls.digits.Goals as goal

pub overflow_add-count : goal.overflow_add-count
overflow_add-count c =
    let kept : c.loop-left.count + length (decimal c.loop-left.left) ≡ 1 + length (decimal c.args.number) = c.loop-left.invariant in
    let few = digits_few c.args.number (omega arith) in
    omega (arith, kept, few)

pub loop-left-preserved : goal.loop-left-preserved
loop-left-preserved c =
    let kept : c.loop-left.count + length (decimal c.loop-left.left) ≡ 1 + length (decimal c.args.number) = c.loop-left.invariant in
    let more = digit_more c.loop-left.left (omega arith) (omega arith) in
    omega (arith, kept, more)

pub returns : goal.returns
returns c =
    let kept : c.loop-left.count + length (decimal c.loop-left.left) ≡ 1 + length (decimal c.args.number) = c.loop-left.invariant in
    let one = one_digit c.loop-left.left (omega arith) in
    let few = digits_few c.args.number (omega arith) in
    record { count = omega (arith, kept, one); few = omega (arith, kept, one, few) }
