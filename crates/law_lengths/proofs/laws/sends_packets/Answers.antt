use Rattle.law_lengths.proofs.Steps.{run_by, step_by}
use Rattle.law_lengths.proofs.laws.sends_packets.Goals as goal

pub returns-clause-step : goal.returns-clause-step
returns-clause-step c = step_by c.spelled.ensures.step

pub returns-clause-run : goal.returns-clause-run
returns-clause-run c = run_by c.spelled.ensures.step c.spelled.ensures.new
