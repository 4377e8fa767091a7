use Rattle.pg_cells.proofs.Calmed.{settle_golds}
use Rattle.pg_cells.proofs.laws.golds_change_flags_alone.Goals as goal

pub returns : goal.returns
returns c = settle_golds
