use Rattle.pangaea.proofs.Carried.{carried_known}
use Rattle.pangaea.proofs.citing.what_is_carried_is_known.Goals as goal

pub returns : goal.returns
returns c = carried_known
