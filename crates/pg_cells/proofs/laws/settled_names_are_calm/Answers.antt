use Rattle.pg_cells.proofs.Calmed.{settle_calm}
use Rattle.pg_cells.proofs.laws.settled_names_are_calm.Goals as goal

pub returns : goal.returns
returns c = settle_calm
