use Rattle.std.proofs.Common.{arith}
use Rattle.pg_state_read.proofs.Few.{few_removed}
use Rattle.pg_state_read.proofs.whole.read_whole.Goals as goal

pub last_place-requires : goal.last_place-requires
last_place-requires c =
    let begun = c.new-reader.ensures in
    let read = c.in_ok-parts.ensures in
    few_removed c.args.bytes.now c.in_ok-parts.parts c.read_marked.new.reader (λ i. omega (arith, c.type_inv.bytes i)) cc
