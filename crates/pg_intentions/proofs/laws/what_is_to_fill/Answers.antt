use Rattle.pg_intentions.proofs.Needs.{what_is_needed}
use Rattle.pg_intentions.proofs.laws.what_is_to_fill.Goals as goal

pub returns : goal.returns
returns c = what_is_needed
