use Rattle.law_acks.proofs.Acknowledged.{acknowledged_are_had}
use Rattle.law_acks.proofs.Runs.{keeps_the_rule, run_keeps}
use Rattle.law_acks.proofs.laws.runs_keep_edges.Goals as goal

pub returns-clause-edges : goal.returns-clause-edges
returns-clause-edges c = λ n on events. (run_keeps n on events).edges

pub returns-clause-whole : goal.returns-clause-whole
returns-clause-whole c = λ n on events s. (run_keeps n on events).whole s

pub returns-clause-had : goal.returns-clause-had
returns-clause-had c = acknowledged_are_had

pub returns-clause-acts : goal.returns-clause-acts
returns-clause-acts c = keeps_the_rule
