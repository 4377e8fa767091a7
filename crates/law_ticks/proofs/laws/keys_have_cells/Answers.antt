use Rattle.law_ticks.proofs.KeysRuns.{run_cells}
use Rattle.law_ticks.proofs.laws.keys_have_cells.Goals as goal

pub returns : goal.returns
returns c = run_cells
