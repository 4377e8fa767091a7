use Rattle.theory_leaving.proofs.Golds.{reliable_law}
use Rattle.theory_leaving.proofs.laws.gold_can_be_relied_on.Goals as goal

pub returns : goal.returns
returns g c = reliable_law g.L.Leaving.protocol
