use Rattle.law_contents.proofs.OneAskedRuns.{one_is_asked}
use Rattle.law_contents.proofs.laws.one_is_asked.Goals as goal

pub returns : goal.returns
returns c = one_is_asked
