use Rattle.pg_run.proofs.QuietAnswers.{quiet_is_told}
use Rattle.pg_run.proofs.laws.quiet_is_told.Goals as goal

pub returns : goal.returns
returns c = quiet_is_told
