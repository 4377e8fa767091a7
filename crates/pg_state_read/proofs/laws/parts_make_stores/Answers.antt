use Rattle.pg_state_read.proofs.Built.{store_is}
use Rattle.pg_state_read.proofs.laws.parts_make_stores.Goals as goal

pub returns : goal.returns
returns c = store_is
