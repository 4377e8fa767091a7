use Rattle.pg_host.proofs.Again.{goes_on_begun, goes_on_log}
use Rattle.pg_host.proofs.laws.logs_go_on.Goals as goal

pub returns-clause-log : goal.returns-clause-log
returns-clause-log c = λ server servers k old entries own few most log read. goes_on_log c.entries_read_back.ensures.written server servers k old entries own few most log read

pub returns-clause-begun : goal.returns-clause-begun
returns-clause-begun c = λ server servers old own. goes_on_begun server servers old own
