use Rattle.pg_house.proofs.Ends as lemmas
use Rattle.pg_house.proofs.laws.own_parent.Goals as goal

pub returns : goal.returns
returns c = lemmas.own_parent
