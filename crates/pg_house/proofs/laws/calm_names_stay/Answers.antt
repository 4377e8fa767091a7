use Rattle.pg_house.proofs.Settling as lemmas
use Rattle.pg_house.proofs.laws.calm_names_stay.Goals as goal

pub returns-clause-behind : goal.returns-clause-behind
returns-clause-behind c = lemmas.calm_behind

pub returns-clause-stay : goal.returns-clause-stay
returns-clause-stay c = lemmas.calm_stays
