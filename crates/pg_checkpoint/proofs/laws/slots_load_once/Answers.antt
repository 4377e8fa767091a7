use Rattle.pg_checkpoint.proofs.Slots.{one_slot}
use Rattle.pg_checkpoint.proofs.Counts.{loads_once}
use Rattle.pg_checkpoint.proofs.laws.slots_load_once.Goals as goal

pub returns-clause-slot : goal.returns-clause-slot
returns-clause-slot c = one_slot

pub returns-clause-loaded : goal.returns-clause-loaded
returns-clause-loaded c = loads_once
