use Rattle.pg_call.proofs.CallSpelling.{one_call}
use Rattle.pg_call.proofs.reading.one_call_spelling.Goals as goal

pub returns : goal.returns
returns c = one_call
