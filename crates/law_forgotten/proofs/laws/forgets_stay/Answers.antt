use Rattle.law_forgotten.proofs.Runs.{forgets_stay}
use Rattle.law_forgotten.proofs.laws.forgets_stay.Goals as goal

pub returns : goal.returns
returns c = forgets_stay
