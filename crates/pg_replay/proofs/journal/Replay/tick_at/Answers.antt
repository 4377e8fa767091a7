use Rattle.std.proofs.Common.{rules, arith}
use Rattle.pg_sched.proofs.Words.{tick_line}
use Rattle.pg_replay.proofs.journal.Replay.tick_at.Goals as goal

pub happen_within-requires-clause-line : goal.happen_within-requires-clause-line
happen_within-requires-clause-line c =
    tick_line c.args.server c.args.moment 0 (search rules) (search rules) (omega arith)
