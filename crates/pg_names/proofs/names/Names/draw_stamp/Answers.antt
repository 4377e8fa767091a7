use Rattle.pg_names.proofs.Standing.{last_indexed}
use Rattle.pg_names.proofs.Steps.{along}
use Rattle.pg_names.proofs.names.Names.draw_stamp.Goals as goal

pub invariant_of-self : goal.invariant_of-self
invariant_of-self c = let i = c.self.inside in along _ _ _ _ _ _ c.draw_stamp.ensures.last (last_indexed i.held _ i.dirty i.dirs i.spots i.holders c.self.invariant)
