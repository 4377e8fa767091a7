use Rattle.law_house.proofs.Ending.{by_steps}
use Rattle.law_house.proofs.laws.house_goes_by_steps.Goals as goal

pub returns : goal.returns
returns c = by_steps
