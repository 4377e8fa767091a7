use Rattle.pg_log.proofs.Bad.{bad_start_at}
use Rattle.pg_log.proofs.block.bad_start.Goals as goal

pub returns-then-file-i : goal.returns-then-file-i
returns-then-file-i c = bad_start_at c.args.file.now c.loop-i.i c.requires c.loop-i-test.true c.loop-i.invariant c.if-file-i.true
