use Rattle.law_steps.proofs.Stepping.{refused_steps}
use Rattle.law_steps.proofs.laws.refused_steps_change_nothing.Goals as goal

pub returns : goal.returns
returns c = refused_steps
