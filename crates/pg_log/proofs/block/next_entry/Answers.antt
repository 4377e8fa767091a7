use Rattle.std.proofs.Common.{arith}
use Rattle.pg_log.proofs.Bad.{bad_none}
use Rattle.pg_log.proofs.block.next_entry.Goals as goal

pub returns-in-empty-clause-err : goal.returns-in-empty-clause-err
returns-in-empty-clause-err c = bad_none c.args.bytes.now (let short = c.in-empty.len_below in omega arith)
