use Rattle.std.proofs.Common.{subst}
use Rattle.pg_unacked.proofs.DueKeys.{KeyCame}
use Rattle.pg_unacked.proofs.Redues.{redues_touched}
use Rattle.pg_unacked.proofs.changes.try_touch.Goals as goal

pub returns-clause-due : goal.returns-clause-due
returns-clause-due c =
    redues_touched c.args.file c.args.edges.now _ c.args.key c.args.tags.now c.add_key.ensures.others
    (subst (KeyCame c.args.unacked.now c.add_key.new.unacked c.args.file c.args.key) c.as_slice.ensures.edges c.in_ok-add_key.ensures.own)
    c.in_ok-touch.ensures.edges
