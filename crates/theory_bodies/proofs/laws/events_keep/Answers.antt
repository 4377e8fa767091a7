use Rattle.theory_bodies.proofs.Runs.{events_keep}
use Rattle.theory_bodies.proofs.laws.events_keep.Goals as goal

pub returns : goal.returns
returns g c = events_keep g.B.Bodies.protocol
