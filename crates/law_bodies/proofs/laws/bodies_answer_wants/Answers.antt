use Rattle.law_bodies.proofs.Told.{bodies_answer_wants}
use Rattle.law_bodies.proofs.laws.bodies_answer_wants.Goals as goal

pub returns : goal.returns
returns c = bodies_answer_wants
