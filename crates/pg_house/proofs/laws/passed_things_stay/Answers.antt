use Rattle.pg_house.proofs.Settling as lemmas
use Rattle.pg_house.proofs.laws.passed_things_stay.Goals as goal

pub returns : goal.returns
returns c = lemmas.changed_pass
