use Rattle.theory_flood.proofs.Worlds.{linked_agree}
use Rattle.theory_flood.proofs.laws.linked_agree.Goals as goal

pub returns : goal.returns
returns g c = linked_agree g.F.Flooding.protocol
