use Rattle.pg_house.proofs.Told as lemmas
use Rattle.pg_house.proofs.laws.all_is_told.Goals as goal

pub returns : goal.returns
returns c = lemmas.told
