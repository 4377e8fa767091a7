use Rattle.theory_listing_house.proofs.Given as lemmas
use Rattle.theory_listing_house.proofs.laws.climbs_come_out.Goals as goal

pub returns : goal.returns
returns c = lemmas.climbs_come_out
