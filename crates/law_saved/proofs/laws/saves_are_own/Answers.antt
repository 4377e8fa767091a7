use Rattle.law_saved.proofs.Saved.{saves_last, states_are_own}
use Rattle.law_saved.proofs.laws.saves_are_own.Goals as goal

pub returns-clause-own : goal.returns-clause-own
returns-clause-own c = states_are_own

pub returns-clause-saved : goal.returns-clause-saved
returns-clause-saved c = saves_last c.states_are_saved.ensures
