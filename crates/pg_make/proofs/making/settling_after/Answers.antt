use Rattle.std.proofs.Common.{arith}
use Rattle.pg_make.proofs.Spelled.{settle_line}
use Rattle.pg_make.proofs.making.settling_after.Goals as goal

pub returns-clause-line : goal.returns-clause-line
returns-clause-line c =
    let few = c.requires in
    settle_line 1 _ (omega arith) (omega arith)
