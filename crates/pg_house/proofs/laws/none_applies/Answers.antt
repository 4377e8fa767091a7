use Rattle.pg_house.proofs.Settling as lemmas
use Rattle.pg_house.proofs.laws.none_applies.Goals as goal

pub returns : goal.returns
returns c = lemmas.none_applies
