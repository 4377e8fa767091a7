use Rattle.pg_house.proofs.Replaced as lemmas
use Rattle.pg_house.proofs.laws.replaced_places_are_noted.Goals as goal

pub returns : goal.returns
returns c = lemmas.noted
