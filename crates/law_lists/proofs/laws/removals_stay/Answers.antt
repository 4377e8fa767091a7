use Rattle.law_lists.proofs.Removing.{removals_stay}
use Rattle.law_lists.proofs.laws.removals_stay.Goals as goal

pub returns : goal.returns
returns c = removals_stay
