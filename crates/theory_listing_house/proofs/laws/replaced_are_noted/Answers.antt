use Rattle.theory_listing_house.proofs.Given as lemmas
use Rattle.theory_listing_house.proofs.laws.replaced_are_noted.Goals as goal

pub returns : goal.returns
returns c = lemmas.replaced_are_noted
