use Rattle.pg_house.proofs.Made as lemmas
use Rattle.pg_house.proofs.laws.few_places_are_made.Goals as goal

pub returns : goal.returns
returns c = lemmas.few_made
