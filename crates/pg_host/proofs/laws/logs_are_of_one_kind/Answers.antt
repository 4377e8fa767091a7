use Rattle.pg_host.proofs.Logs.{not_bad_other, not_bad_own, not_own_other, one_bad_place, one_other}
use Rattle.pg_host.proofs.laws.logs_are_of_one_kind.Goals as goal

pub returns-clause-place : goal.returns-clause-place
returns-clause-place c = λ file a b bad also. one_bad_place file a b bad also

pub returns-clause-bad_own : goal.returns-clause-bad_own
returns-clause-bad_own c = λ server servers place file bad own. not_bad_own server servers place file bad own

pub returns-clause-bad_other : goal.returns-clause-bad_other
returns-clause-bad_other c = λ server servers place a b file bad other. not_bad_other server servers place a b file bad other

pub returns-clause-own_other : goal.returns-clause-own_other
returns-clause-own_other c = λ server servers a b file own other. not_own_other server servers a b file own other

pub returns-clause-other : goal.returns-clause-other
returns-clause-other c = λ server servers a b c d file one also. one_other server servers a b c d file one also
