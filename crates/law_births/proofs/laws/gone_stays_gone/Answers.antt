use Rattle.law_births.proofs.Given.{fills_stand, ids_free, makers, stores_whole}
use Rattle.law_births.proofs.Gone.{gone_says}
use Rattle.law_births.proofs.laws.gone_stays_gone.Goals as goal

pub returns : goal.returns
returns c n intends = gone_says n intends (stores_whole n) (makers n) (fills_stand n intends) (ids_free n)
