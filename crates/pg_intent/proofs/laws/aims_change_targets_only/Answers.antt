use Rattle.pg_intent.proofs.Found.{aimed_found}
use Rattle.pg_intent.proofs.Kept.{length-aimed}
use Rattle.pg_intent.proofs.laws.aims_change_targets_only.Goals as goal

pub returns-clause-found : goal.returns-clause-found
returns-clause-found c = aimed_found

pub returns-clause-len : goal.returns-clause-len
returns-clause-len c = length-aimed
