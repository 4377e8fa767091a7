use Rattle.pg_store.proofs.Wanted.{sorted_none}
use Rattle.pg_store.proofs.wishes.Wishes.clear.Goals as goal

pub invariant_of-self : goal.invariant_of-self
invariant_of-self c = sorted_none _ c.new.ensures.empty
