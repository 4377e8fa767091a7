use Rattle.law_leaving.proofs.Safe.{drops_leave_all, givers_have_each_cell}
use Rattle.law_leaving.proofs.laws.drops_leave_all.Goals as goal

pub returns-clause-all : goal.returns-clause-all
returns-clause-all c n on = drops_leave_all n on

pub returns-clause-cells : goal.returns-clause-cells
returns-clause-cells c n on = givers_have_each_cell n on
