use Rattle.std.proofs.Common.{arith}
use Rattle.pg_checkpoint.proofs.Slots.{head_is, slot_there}
use Rattle.pg_checkpoint.proofs.head.entry_in.Goals as goal

pub returns : goal.returns
returns c = λ file is size.
    slot_there file c.number_at.result c.number_at-2.result c.length_at.result (omega arith) (omega arith) (omega arith)
    (head_is c.args.bytes.now file c.number_at.result c.number_at-2.result c.length_at.result is (omega arith) c.if-bytes-ne1.false c.number_at.ensures c.number_at-2.ensures c.length_at.ensures)
    (omega (arith, size, c.if-size-entry.false))
