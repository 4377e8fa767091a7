use Rattle.law_repair.proofs.Raising.{golds_raise_none}
use Rattle.law_repair.proofs.laws.golds_raise_none.Goals as goal

pub returns : goal.returns
returns c = golds_raise_none
