use Rattle.theory_flood.proofs.Worlds.{connected_agree}
use Rattle.theory_flood.proofs.laws.connected_agree.Goals as goal

pub returns : goal.returns
returns g c = connected_agree g.F.Flooding.protocol
