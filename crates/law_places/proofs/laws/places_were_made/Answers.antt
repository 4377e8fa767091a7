use Rattle.law_places.proofs.OnePlace as lemmas
use Rattle.law_places.proofs.laws.places_were_made.Goals as goal

pub returns-clause-made : goal.returns-clause-made
returns-clause-made c = lemmas.places_were_made

pub returns-clause-one : goal.returns-clause-one
returns-clause-one c = lemmas.one_made_place_a_stamp

pub returns-clause-own : goal.returns-clause-own
returns-clause-own c = lemmas.places_have_own_stamps

pub returns-clause-past : goal.returns-clause-past
returns-clause-past c = lemmas.places_made_are_past
