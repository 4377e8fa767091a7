use Rattle.pg_house.proofs.Raised as lemmas
use Rattle.pg_house.proofs.laws.a_flag_passes.Goals as goal

pub returns-clause-differs : goal.returns-clause-differs
returns-clause-differs c = lemmas.raised_differs

pub returns-clause-calm : goal.returns-clause-calm
returns-clause-calm c = lemmas.raised_calm
