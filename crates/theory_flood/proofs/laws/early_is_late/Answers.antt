use Rattle.theory_flood.proofs.Late.{early}
use Rattle.theory_flood.proofs.laws.early_is_late.Goals as goal

pub returns : goal.returns
returns g c = early g.F.Flooding.protocol
