use Rattle.law_contents.proofs.KeptRuns.{keeps_what_it_made_or_took}
use Rattle.law_contents.proofs.laws.kept_deltas_are_latest.Goals as goal

pub returns : goal.returns
returns c = keeps_what_it_made_or_took
