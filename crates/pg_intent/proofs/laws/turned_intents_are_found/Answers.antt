use Rattle.pg_intent.proofs.Turned.{own-turned, turn_found}
use Rattle.pg_intent.proofs.laws.turned_intents_are_found.Goals as goal

pub returns-clause-found : goal.returns-clause-found
returns-clause-found c = λ is server to k h. turn_found server is to k h

pub returns-clause-keys : goal.returns-clause-keys
returns-clause-keys c = λ is ks to h. own-turned ks is to h
