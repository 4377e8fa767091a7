use Rattle.theory_listing_house.proofs.Given as lemmas
use Rattle.theory_listing_house.proofs.laws.settled_behind.Goals as goal

pub returns : goal.returns
returns c = lemmas.settled_behind
