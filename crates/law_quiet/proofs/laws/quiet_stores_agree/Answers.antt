use Rattle.law_quiet.proofs.Agreement.{quiet_stores_agree}
use Rattle.law_quiet.proofs.laws.quiet_stores_agree.Goals as goal

pub returns : goal.returns
returns c = quiet_stores_agree
