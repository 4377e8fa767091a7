use Rattle.law_spelled.proofs.Steps.{begins, steps}
use Rattle.law_spelled.proofs.laws.spelled.Goals as goal

pub returns-clause-new : goal.returns-clause-new
returns-clause-new c = begins

pub returns-clause-step : goal.returns-clause-step
returns-clause-step c = steps
