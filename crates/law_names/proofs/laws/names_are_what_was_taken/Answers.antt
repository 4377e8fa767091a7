use Rattle.law_names.proofs.Runs.{names_merge, stand_on}
use Rattle.law_names.proofs.laws.names_are_what_was_taken.Goals as goal

pub returns : goal.returns
returns c = λ n on. names_merge n (stand_on n on)
