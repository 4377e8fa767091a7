use Rattle.law_intents.proofs.Told.{in_order}
use Rattle.law_intents.proofs.laws.intentions_are_in_order.Goals as goal

pub returns : goal.returns
returns c = in_order
