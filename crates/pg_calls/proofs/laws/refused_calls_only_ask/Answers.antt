use Rattle.pg_calls.proofs.Refused.{refused_only_asks}
use Rattle.pg_calls.proofs.laws.refused_calls_only_ask.Goals as goal

pub returns : goal.returns
returns c = refused_only_asks
