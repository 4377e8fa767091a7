use Rattle.pg_intent.proofs.Kept.{own-aimed, own-begun, own-ended}
use Rattle.pg_intent.proofs.laws.keys_stay_single.Goals as goal

pub returns-clause-begun : goal.returns-clause-begun
returns-clause-begun c = own-begun

pub returns-clause-ended : goal.returns-clause-ended
returns-clause-ended c = own-ended

pub returns-clause-aimed : goal.returns-clause-aimed
returns-clause-aimed c = own-aimed
