use Rattle.pg_house.proofs.Ends as lemmas
use Rattle.pg_house.proofs.laws.all_have_passed.Goals as goal

pub returns : goal.returns
returns c = lemmas.passing
