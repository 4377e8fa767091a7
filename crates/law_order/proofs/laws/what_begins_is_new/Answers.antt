use Rattle.law_order.proofs.Told.{births_given, ids_new, what_begins_away}
use Rattle.law_order.proofs.laws.what_begins_is_new.Goals as goal

pub returns-clause-births : goal.returns-clause-births
returns-clause-births c = births_given

pub returns-clause-ids : goal.returns-clause-ids
returns-clause-ids c = ids_new

pub returns-clause-away : goal.returns-clause-away
returns-clause-away c = what_begins_away
