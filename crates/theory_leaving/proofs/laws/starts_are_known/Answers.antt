use Rattle.theory_leaving.proofs.Kept.{start_law}
use Rattle.theory_leaving.proofs.laws.starts_are_known.Goals as goal

pub returns : goal.returns
returns g c = start_law g.L.Leaving.protocol
