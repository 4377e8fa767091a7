use Rattle.theory_listing_house.proofs.Given as lemmas
use Rattle.theory_listing_house.proofs.laws.cells_grow.Goals as goal

pub returns : goal.returns
returns c = lemmas.cells_grow
