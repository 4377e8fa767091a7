use Rattle.pg_disk.proofs.Tries.{still_failing, still_done}
use Rattle.pg_disk.proofs.laws.moments_are_between_calls.Goals as goal

pub returns-clause-failing : goal.returns-clause-failing
returns-clause-failing c = still_failing

pub returns-clause-done : goal.returns-clause-done
returns-clause-done c = still_done
