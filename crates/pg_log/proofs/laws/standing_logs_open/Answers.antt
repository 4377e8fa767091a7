use Rattle.pg_log.proofs.Standing.{stands_opens, stands_on}
use Rattle.pg_log.proofs.laws.standing_logs_open.Goals as goal

pub returns-clause-opens : goal.returns-clause-opens
returns-clause-opens c = stands_opens

pub returns-clause-stays : goal.returns-clause-stays
returns-clause-stays c = stands_on
