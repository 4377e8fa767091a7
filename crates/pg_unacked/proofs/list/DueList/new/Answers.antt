use Rattle.pg_unacked.proofs.Places.{ordered-nil}
use Rattle.pg_unacked.proofs.list.DueList.new.Goals as goal

pub invariant_of-result : goal.invariant_of-result
invariant_of-result c = ordered-nil c.new.result.items c.new.ensures.items
