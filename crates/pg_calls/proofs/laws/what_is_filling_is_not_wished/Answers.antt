use Rattle.pg_calls.proofs.Filled.{filled_keeps_no_wish}
use Rattle.pg_calls.proofs.laws.what_is_filling_is_not_wished.Goals as goal

pub returns : goal.returns
returns c = filled_keeps_no_wish
