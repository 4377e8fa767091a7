use Rattle.pg_unacked.proofs.Redues.{redues_out}
use Rattle.pg_unacked.proofs.changes.unlink_due.Goals as goal

pub returns-then-is_listed-clause-due : goal.returns-then-is_listed-clause-due
returns-then-is_listed-clause-due c =
    redues_out c.args.file c.args.edges.now _ c.args.peer c.remove_file.ensures c.take_out.ensures
