use Rattle.std.proofs.Common.{subst}
use Rattle.pg_unacked.proofs.DueKeys.{KeyWent}
use Rattle.pg_unacked.proofs.Redues.{redues_retired}
use Rattle.pg_unacked.proofs.changes.retire_due.Goals as goal

pub returns-clause-due : goal.returns-clause-due
returns-clause-due c =
    redues_retired c.args.file c.args.edges.now _ c.args.key c.drop_key.ensures.others
    (subst (KeyWent c.args.unacked.now c.drop_key.new.unacked c.args.file c.args.key) c.as_slice.ensures.edges c.drop_key.ensures.own)
    c.retire.ensures
