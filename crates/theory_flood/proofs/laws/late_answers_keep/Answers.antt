use Rattle.theory_flood.proofs.Late.{late}
use Rattle.theory_flood.proofs.laws.late_answers_keep.Goals as goal

pub returns : goal.returns
returns g c = late g.F.Flooding.protocol
