use Rattle.law_births.proofs.Given.{makers, stores_whole}
use Rattle.law_births.proofs.Named.{births_are_known}
use Rattle.law_births.proofs.laws.births_are_known.Goals as goal

pub returns : goal.returns
returns c n intends = births_are_known n intends (stores_whole n) (makers n)
