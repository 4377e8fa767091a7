use Rattle.theory_bodies.proofs.Runs.{what_comes}
use Rattle.theory_bodies.proofs.laws.what_comes_is_the_version.Goals as goal

pub returns : goal.returns
returns g c = what_comes g.B.Bodies.protocol
