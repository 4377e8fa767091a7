use Rattle.pg_intentions.proofs.Idle.{leaves_nothing}
use Rattle.pg_intentions.proofs.Sought.{has_its_seek}
use Rattle.pg_intentions.proofs.Standing.{confirmed_in_doubt, has_its_fill}
use Rattle.pg_intentions.proofs.laws.intentions_follow_what_is_held.Goals as goal

pub returns-clause-fills : goal.returns-clause-fills
returns-clause-fills c = has_its_fill

pub returns-clause-seeks : goal.returns-clause-seeks
returns-clause-seeks c = has_its_seek

pub returns-clause-confirms : goal.returns-clause-confirms
returns-clause-confirms c = confirmed_in_doubt

pub returns-clause-rest : goal.returns-clause-rest
returns-clause-rest c = leaves_nothing
