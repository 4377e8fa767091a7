use Rattle.pg_names.proofs.Standing.{fill_indexed}
use Rattle.pg_names.proofs.Steps.{along}
use Rattle.pg_names.proofs.names.Names.fill.Goals as goal

pub invariant_of-self : goal.invariant_of-self
invariant_of-self c = let i = c.self.inside in along _ _ _ _ _ _ c.fill.ensures (fill_indexed i.held c.args.file.now i.dirty i.dirs i.spots i.holders c.self.invariant)
