use Rattle.law_full.proofs.Filling.{full_placed_run, full_says_run}
use Rattle.law_full.proofs.laws.full_replicas_have_places.Goals as goal

pub returns-clause-placed : goal.returns-clause-placed
returns-clause-placed c = full_placed_run

pub returns-clause-said : goal.returns-clause-said
returns-clause-said c = full_says_run
