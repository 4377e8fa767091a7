use Rattle.std.proofs.Common.{arith}
use Rattle.law_states.proofs.widths.bytes_are.Goals as goal

pub returns : goal.returns
returns c = λ i. omega (arith, c.type_inv.bytes i)
