use Rattle.law_determined.proofs.Determined.{names_are_determined}
use Rattle.law_determined.proofs.laws.names_are_determined.Goals as goal

pub returns : goal.returns
returns c = names_are_determined
