use Rattle.theory_leaving.proofs.Kept.{idle_law, keep_law}
use Rattle.theory_leaving.proofs.laws.replicas_are_known.Goals as goal

pub returns-clause-acts : goal.returns-clause-acts
returns-clause-acts g c = keep_law g.L.Leaving.protocol

pub returns-clause-idles : goal.returns-clause-idles
returns-clause-idles g c = idle_law g.L.Leaving.protocol
