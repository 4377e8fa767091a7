use Rattle.law_repair.proofs.Repairs.{kept_connected}
use Rattle.law_repair.proofs.laws.kept_things_are_connected.Goals as goal

pub returns : goal.returns
returns c = kept_connected
