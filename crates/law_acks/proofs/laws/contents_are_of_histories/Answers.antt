use Rattle.law_acks.proofs.Histories.{hold_histories}
use Rattle.law_acks.proofs.laws.contents_are_of_histories.Goals as goal

pub returns : goal.returns
returns c = hold_histories
