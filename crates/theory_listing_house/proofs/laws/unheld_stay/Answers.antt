use Rattle.theory_listing_house.proofs.Given as lemmas
use Rattle.theory_listing_house.proofs.laws.unheld_stay.Goals as goal

pub returns-clause-stay : goal.returns-clause-stay
returns-clause-stay c = lemmas.unheld_stay

pub returns-clause-none : goal.returns-clause-none
returns-clause-none c = lemmas.nothing_begins
