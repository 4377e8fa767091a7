use Rattle.pg_cells.proofs.Calmed.{none_goldless}
use Rattle.pg_cells.proofs.laws.every_full_thing_sees_a_gold.Goals as goal

pub returns : goal.returns
returns c = none_goldless
