use Rattle.theory_listing_house.proofs.Second.{rules_are_second_parts}
use Rattle.theory_listing_house.proofs.laws.rules_are_second_parts.Goals as goal

pub returns : goal.returns
returns g c = rules_are_second_parts g.K.Keeping.see g.K.Keeping.beside
