use Rattle.pg_house.proofs.Keys.{rules_keys}
use Rattle.pg_house.proofs.Fullness.{rules_full}
use Rattle.pg_house.proofs.laws.the_same_is_held.Goals as goal

pub returns-clause-held : goal.returns-clause-held
returns-clause-held c = rules_keys

pub returns-clause-full : goal.returns-clause-full
returns-clause-full c = rules_full
