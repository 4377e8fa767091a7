use Rattle.law_intents.proofs.Told.{have_requests, nothing_left}
use Rattle.law_intents.proofs.laws.nothing_is_left_to_do.Goals as goal

pub returns-clause-still : goal.returns-clause-still
returns-clause-still c = nothing_left

pub returns-clause-asked : goal.returns-clause-asked
returns-clause-asked c = have_requests
