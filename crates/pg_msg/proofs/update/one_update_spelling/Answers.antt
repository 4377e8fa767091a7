use Rattle.pg_msg.proofs.Updates.{same_update}
use Rattle.pg_msg.proofs.update.one_update_spelling.Goals as goal

pub returns : goal.returns
returns c = same_update
