use Rattle.law_refused.proofs.Runs.{refusals_change_nothing}
use Rattle.law_refused.proofs.laws.refusals_change_nothing.Goals as goal

pub returns : goal.returns
returns c = refusals_change_nothing
