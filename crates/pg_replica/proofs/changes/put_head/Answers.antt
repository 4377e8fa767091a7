use Rattle.pg_unacked.proofs.Redues.{redues_lost, redues_on}
use Rattle.pg_replica.proofs.changes.put_head.Goals as goal

pub returns-in_err-touch_due-clause-due : goal.returns-in_err-touch_due-clause-due
returns-in_err-touch_due-clause-due c = redues_on c.args.file c.retire_replaced.ensures.due c.touch_due.ensures.due

pub returns-in-Err-clause-due : goal.returns-in-Err-clause-due
returns-in-Err-clause-due c =
    redues_lost c.args.file (redues_on c.args.file c.retire_replaced.ensures.due c.touch_due.ensures.due) c.let_go.ensures.others c.let_go.ensures.own

pub returns-clause-due : goal.returns-clause-due
returns-clause-due c = redues_on c.args.file c.retire_replaced.ensures.due c.touch_due.ensures.due
