use Rattle.pg_store.proofs.Wanted.{sorted_none}
use Rattle.pg_store.proofs.wishes.Wishes.new.Goals as goal

pub invariant_of-result : goal.invariant_of-result
invariant_of-result c = sorted_none _ c.new.ensures.empty
