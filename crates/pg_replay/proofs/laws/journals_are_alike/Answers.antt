use Rattle.pg_replay.proofs.Alike.{journals_alike}
use Rattle.pg_replay.proofs.laws.journals_are_alike.Goals as goal

pub returns : goal.returns
returns c = journals_alike
