use Rattle.pg_replica.proofs.Relisting.{keys_listed}
use Rattle.pg_replica.proofs.listing.touch_listed.Goals as goal

pub returns-in_err-touch_due-clause-listed : goal.returns-in_err-touch_due-clause-listed
returns-in_err-touch_due-clause-listed c =
    keys_listed _ _ c.args.file _ _ c.in_ok-list_keys.ensures.ok c.in_err-touch_due.ensures.no_edge

pub returns-clause-listed : goal.returns-clause-listed
returns-clause-listed c =
    keys_listed _ _ c.args.file _ _ c.in_ok-list_keys.ensures.ok c.in_ok-touch_due.ensures.no_edge
