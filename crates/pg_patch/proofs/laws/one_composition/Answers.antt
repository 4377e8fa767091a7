use Rattle.pg_patch.proofs.Same.{one_composed}
use Rattle.pg_patch.proofs.laws.one_composition.Goals as goal

pub returns : goal.returns
returns c = one_composed
