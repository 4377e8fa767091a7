use Rattle.pg_unacked.proofs.Redues.{redues_on}
use Rattle.pg_replica.proofs.changes.put_alone.Goals as goal

pub returns-in_err-touch_due-clause-due : goal.returns-in_err-touch_due-clause-due
returns-in_err-touch_due-clause-due c = redues_on c.args.file c.retire_all.ensures.due c.touch_due.ensures.due
