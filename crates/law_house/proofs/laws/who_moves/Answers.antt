use Rattle.law_house.proofs.Moving.{who_moves}
use Rattle.law_house.proofs.laws.who_moves.Goals as goal

pub returns : goal.returns
returns c = who_moves
