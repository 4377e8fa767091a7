use Rattle.law_leaving.proofs.Behind.{what_went_is_over}
use Rattle.law_leaving.proofs.Heard.{byes_are_over}
use Rattle.law_leaving.proofs.laws.what_went_is_over.Goals as goal

pub returns-clause-went : goal.returns-clause-went
returns-clause-went c n on = what_went_is_over n on

pub returns-clause-byes : goal.returns-clause-byes
returns-clause-byes c n on = byes_are_over n on
