use Rattle.std.proofs.Common.{arith}
use Rattle.pg_make.proofs.Spelled.{settle_line}
use Rattle.pg_make.proofs.making.last_settling.Goals as goal

pub returns-clause-line : goal.returns-clause-line
returns-clause-line c =
    let few = c.requires in
    settle_line 64 _ (omega arith) (omega arith)
