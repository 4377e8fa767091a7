use Rattle.law_order.proofs.Told.{house_in_order}
use Rattle.law_order.proofs.laws.house_is_in_order.Goals as goal

pub returns : goal.returns
returns c = house_in_order
