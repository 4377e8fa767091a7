use Rattle.pg_announced.proofs.Sorted.{sorted_none}
use Rattle.pg_announced.proofs.announced.Announcements.new.Goals as goal

pub invariant_of-result : goal.invariant_of-result
invariant_of-result c = sorted_none _ c.new.ensures.empty
