use Rattle.pg_intent.proofs.Found.{begun_found}
use Rattle.pg_intent.proofs.laws.begun_intents_are_found.Goals as goal

pub returns : goal.returns
returns c = begun_found
