use Rattle.law_frame.proofs.pg_run.StillRules.{house_still}
use Rattle.law_frame.proofs.pg_run.Ticks.{settled_is}
use Rattle.law_frame.specs.pg_run.Laws.{names_after, store_after}
use Rattle.law_ticks.proofs.laws.no_rule_applies.Goals as goal

pub returns-clause-rules : goal.returns-clause-rules
returns-clause-rules c = λ n order ordered events s least most moment work.
    house_still moment (names_after n events s) work (order events s least most) (ordered events s least most)

pub returns-clause-golds : goal.returns-clause-golds
returns-clause-golds c = λ n order ordered golds events s least most work.
    settled_is (store_after n events s) (order events s least most) (ordered events s least most) (golds events s least most) work
