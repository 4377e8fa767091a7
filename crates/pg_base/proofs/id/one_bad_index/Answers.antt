use Rattle.pg_base.proofs.Prefixes.{one_place}
use Rattle.pg_base.proofs.id.one_bad_index.Goals as goal

pub returns : goal.returns
returns c = one_place
