use Rattle.pg_index.proofs.Searching.{searched}
use Rattle.pg_index.proofs.ids.Ids.search.Goals as goal

pub returns-clause-found : goal.returns-clause-found
returns-clause-found c =
    let facts = c.binary_search.ensures in
    rw (← c.as_slice-ids.ensures.ids) (searched c.as_slice-ids.result.now c.args.file.now _ (rw c.as_slice-ids.ensures.ids c.as_slice-ids.ensures.sorted) facts.bound facts.position).0

pub returns-clause-missing : goal.returns-clause-missing
returns-clause-missing c =
    let facts = c.binary_search.ensures in
    rw (← c.as_slice-ids.ensures.ids) (searched c.as_slice-ids.result.now c.args.file.now _ (rw c.as_slice-ids.ensures.ids c.as_slice-ids.ensures.sorted) facts.bound facts.position).1
