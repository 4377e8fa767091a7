use Rattle.theory_leaving.proofs.Golds.{drop_law}
use Rattle.theory_leaving.proofs.laws.drops_are_safe.Goals as goal

pub returns : goal.returns
returns g c = drop_law g.L.Leaving.protocol
