use Rattle.pg_house.proofs.Ends as lemmas
use Rattle.pg_house.proofs.laws.no_dead_directory_lists.Goals as goal

pub returns : goal.returns
returns c = lemmas.no_dead_directory_lists
