use Rattle.theory_bodies.proofs.Runs.{the_tag}
use Rattle.theory_bodies.proofs.laws.the_tag_is_a_harbingers.Goals as goal

pub returns : goal.returns
returns g c = the_tag g.B.Bodies.protocol
