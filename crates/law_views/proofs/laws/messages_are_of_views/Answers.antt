use Rattle.law_views.proofs.Told.{messages_are_of_views, messages_are_sent}
use Rattle.law_views.proofs.laws.messages_are_of_views.Goals as goal

pub returns-clause-sent : goal.returns-clause-sent
returns-clause-sent c = messages_are_sent

pub returns-clause-views : goal.returns-clause-views
returns-clause-views c = messages_are_of_views
