use Rattle.std.proofs.Common.{ap}
use Rattle.pg_replica.specs.declared.replica.Replica.{Replica}
use Rattle.pg_replica.proofs.Ends.{ends_alone, ends_kept}
use Rattle.pg_replica.proofs.Relisting.{keys_listed, keys_same}
use Rattle.pg_replica.proofs.listing.write_listed.Goals as goal

pub returns-in_err-list_end-clause-listed : goal.returns-in_err-list_end-clause-listed
returns-in_err-list_end-clause-listed c = keys_same _ _ c.args.file _ c.in_ok-list_keys.ensures.ok

pub returns-in_err-put_alone-clause-listed : goal.returns-in_err-put_alone-clause-listed
returns-in_err-put_alone-clause-listed c =
    keys_listed _ _ c.args.file _ _ c.in_ok-list_keys.ensures.ok c.in_err-put_alone.ensures.no_edge

pub returns-in_err-put_alone-clause-ended : goal.returns-in_err-put_alone-clause-ended
returns-in_err-put_alone-clause-ended c =
    ends_kept _ _ c.args.file _ _ c.in_ok-version.version c.in_ok-list_end.ensures.ok c.in_err-put_alone.ensures.err

pub returns-clause-listed : goal.returns-clause-listed
returns-clause-listed c =
    keys_listed _ _ c.args.file _ _ c.in_ok-list_keys.ensures.ok c.in_ok-put_alone.ensures.no_edge

pub returns-clause-ended : goal.returns-clause-ended
returns-clause-ended c =
    ends_alone _ _ c.args.file _ _ c.in_ok-version.version c.in_ok-list_end.ensures.ok
    (ap (λ (y : Replica). y.content.heads) c.in_ok-put_alone.ensures.replica)
