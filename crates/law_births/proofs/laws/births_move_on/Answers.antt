use Rattle.law_births.proofs.Alone.{births_move_in_events, births_move_on, replicas_stay_or_go}
use Rattle.law_births.proofs.Given.{fills_stand, ids_free, makers, stores_whole}
use Rattle.law_births.proofs.Gone.{byes_are_of_over}
use Rattle.law_births.proofs.laws.births_move_on.Goals as goal

pub returns-clause-events : goal.returns-clause-events
returns-clause-events c n intends = births_move_in_events n (fills_stand n intends) (ids_free n)

pub returns-clause-runs : goal.returns-clause-runs
returns-clause-runs c n intends = births_move_on n (fills_stand n intends) (ids_free n)

pub returns-clause-replicas : goal.returns-clause-replicas
returns-clause-replicas c n intends = replicas_stay_or_go n (fills_stand n intends) (ids_free n)

pub returns-clause-byes : goal.returns-clause-byes
returns-clause-byes c n intends =
    byes_are_of_over n intends (stores_whole n) (makers n) (fills_stand n intends) (ids_free n)
