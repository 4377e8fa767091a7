use Rattle.law_acks.proofs.Growing.{events_grow, runs_grow}
use Rattle.law_acks.proofs.laws.runs_grow.Goals as goal

pub returns-clause-runs : goal.returns-clause-runs
returns-clause-runs c = runs_grow

pub returns-clause-events : goal.returns-clause-events
returns-clause-events c = events_grow
