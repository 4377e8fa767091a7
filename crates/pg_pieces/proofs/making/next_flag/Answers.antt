use Rattle.std.proofs.Common.{arith}
use Rattle.pg_pieces.proofs.making.next_flag.Goals as goal

pub next-requires : goal.next-requires
next-requires c = omega (arith, c.number-number.ensures.bound c.birth-birth.result)
