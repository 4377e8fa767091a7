use Rattle.std.proofs.Common.{arith}
use Rattle.pg_patch.proofs.Pieces.{laid-wider}
use Rattle.pg_patch.proofs.composing.laid_within.Goals as goal

pub returns-then-end-start-clause-laid : goal.returns-then-end-start-clause-laid
returns-then-end-start-clause-laid c = laid-wider c.args.laying c.args.from _ (omega arith) c.requires.laid

pub put-requires-clause-laid : goal.put-requires-clause-laid
put-requires-clause-laid c = laid-wider c.args.laying c.args.from _ (omega (arith, c.max-start.ensures)) c.requires.laid
