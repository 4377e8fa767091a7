use Rattle.pg_intent.proofs.Found.{ended_found}
use Rattle.pg_intent.proofs.laws.ended_intents_are_gone.Goals as goal

pub returns : goal.returns
returns c = ended_found
