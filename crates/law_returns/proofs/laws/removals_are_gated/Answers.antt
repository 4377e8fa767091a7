use Rattle.law_returns.proofs.Begun.{gate_stands, removed_are_empty}
use Rattle.law_returns.proofs.Justified.{justified}
use Rattle.law_returns.proofs.Letters.{messages_are_mindful}
use Rattle.law_returns.proofs.Returned.{returns_find_new}
use Rattle.law_returns.proofs.laws.removals_are_gated.Goals as goal

pub returns-clause-messages : goal.returns-clause-messages
returns-clause-messages c = messages_are_mindful

pub returns-clause-empty : goal.returns-clause-empty
returns-clause-empty c = removed_are_empty

pub returns-clause-gate : goal.returns-clause-gate
returns-clause-gate c = gate_stands

pub returns-clause-places : goal.returns-clause-places
returns-clause-places c = returns_find_new

pub returns-clause-takes : goal.returns-clause-takes
returns-clause-takes c = justified
