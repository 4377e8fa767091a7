use Rattle.law_took.proofs.Coming.{replicas_took}
use Rattle.law_took.proofs.laws.replicas_took_what_came.Goals as goal

pub returns : goal.returns
returns c = replicas_took
