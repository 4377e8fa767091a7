use Rattle.pg_patch.proofs.Composed.{two_applies}
use Rattle.pg_patch.proofs.laws.compose_is_two_applies.Goals as goal

pub returns : goal.returns
returns c = two_applies
