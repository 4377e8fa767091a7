use Rattle.law_repair.proofs.Stays.{full_stays}
use Rattle.law_repair.proofs.laws.full_replicas_stay.Goals as goal

pub returns : goal.returns
returns c = full_stays
