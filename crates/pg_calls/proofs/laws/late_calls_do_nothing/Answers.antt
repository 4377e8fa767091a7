use Rattle.pg_calls.proofs.Late.{late_does_nothing}
use Rattle.pg_calls.proofs.laws.late_calls_do_nothing.Goals as goal

pub returns : goal.returns
returns c = late_does_nothing
