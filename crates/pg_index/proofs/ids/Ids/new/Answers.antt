use Rattle.pg_index.proofs.Searching.{sorted_none}
use Rattle.pg_index.proofs.ids.Ids.new.Goals as goal

pub invariant_of-result : goal.invariant_of-result
invariant_of-result c = sorted_none c.new.result.items c.new.ensures.items
