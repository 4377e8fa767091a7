use Rattle.theory_listing_house.proofs.Given as lemmas
use Rattle.theory_listing_house.proofs.laws.parents_at_start.Goals as goal

pub returns : goal.returns
returns c = lemmas.parents_at_start
