use Rattle.pg_event.proofs.Quiets.{same_quiet}
use Rattle.pg_event.proofs.quiet.one_quiet_spelling.Goals as goal

pub returns : goal.returns
returns c = same_quiet
