use Rattle.law_confirms.proofs.Stepping.{confirms_begin_and_stay}
use Rattle.law_confirms.proofs.laws.confirms_begin_and_stay.Goals as goal

pub returns : goal.returns
returns c = confirms_begin_and_stay
