use Rattle.law_repair.proofs.Creating.{made_things_are_created}
use Rattle.law_repair.proofs.laws.made_things_are_created.Goals as goal

pub returns : goal.returns
returns c = made_things_are_created
