use Rattle.law_wants.proofs.Events.{an_event_asks_one}
use Rattle.law_wants.proofs.laws.an_event_asks_one.Goals as goal

pub returns : goal.returns
returns c = an_event_asks_one
