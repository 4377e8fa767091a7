use Rattle.law_places.proofs.OnePlace as lemmas
use Rattle.law_places.proofs.laws.one_place_a_stamp.Goals as goal

pub returns : goal.returns
returns c = lemmas.one_place_a_stamp
