use Rattle.pg_unacked.proofs.Places.{searched}
use Rattle.pg_unacked.proofs.list.DueList.search.Goals as goal

pub returns-clause-found : goal.returns-clause-found
returns-clause-found c =
    let facts = c.binary_search.ensures in
    rw (← c.as_slice-dues.ensures.dues) (searched c.as_slice-dues.result.now c.args.due.now _ (rw c.as_slice-dues.ensures.dues c.as_slice-dues.ensures.sorted) facts.bound facts.position).0

pub returns-clause-missing : goal.returns-clause-missing
returns-clause-missing c =
    let facts = c.binary_search.ensures in
    rw (← c.as_slice-dues.ensures.dues) (searched c.as_slice-dues.result.now c.args.due.now _ (rw c.as_slice-dues.ensures.dues c.as_slice-dues.ensures.sorted) facts.bound facts.position).1
