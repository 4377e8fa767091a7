use Rattle.law_golds.proofs.SeenAfter.{full_replicas_see_gold}
use Rattle.law_golds.proofs.laws.golds_are_seen.Goals as goal

pub returns : goal.returns
returns c = full_replicas_see_gold
