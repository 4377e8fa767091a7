use Rattle.theory_bodies.proofs.Runs.{a_delta}
use Rattle.theory_bodies.proofs.laws.a_delta_makes_the_version.Goals as goal

pub returns : goal.returns
returns g c = a_delta g.B.Bodies.protocol
