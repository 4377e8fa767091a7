use Rattle.law_bodies.proofs.Harbingers.{first_harbingers_ask}
use Rattle.law_bodies.proofs.laws.first_harbingers_ask.Goals as goal

pub returns : goal.returns
returns c = first_harbingers_ask
