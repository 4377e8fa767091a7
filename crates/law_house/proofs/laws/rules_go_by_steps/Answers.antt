use Rattle.law_house.proofs.Running.{rules_by_steps}
use Rattle.law_house.proofs.laws.rules_go_by_steps.Goals as goal

pub returns : goal.returns
returns c = rules_by_steps
