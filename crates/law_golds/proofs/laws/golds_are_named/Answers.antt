use Rattle.law_golds.proofs.Named.{replicas_name_golds}
use Rattle.law_golds.proofs.laws.golds_are_named.Goals as goal

pub returns : goal.returns
returns c = replicas_name_golds
