use Rattle.std.proofs.Common.{subst}
use Rattle.pg_names.specs.Names.{NamesValue}
use Rattle.pg_names.specs.Calm.{AllCome, AreCalm}
use Rattle.pg_names.proofs.names.Names.dirty.Goals as goal

pub returns-clause-calm : goal.returns-clause-calm
returns-clause-calm c = subst (λ (s : NamesValue). AreCalm s c.self.inside.dirty) c.self.view_is c.self.invariant.calm

pub returns-clause-come : goal.returns-clause-come
returns-clause-come c = subst (λ (s : NamesValue). AllCome s c.self.inside.dirty) c.self.view_is c.self.invariant.come
