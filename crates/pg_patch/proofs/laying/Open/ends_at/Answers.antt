use Rattle.std.proofs.Common.{ap, arith}
use Rattle.std.proofs.lemmas.Bool.{eqb-true}
use Rattle.pg_patch.specs.Laying.{opened}
use Rattle.pg_patch.proofs.laying.Open.ends_at.Goals as goal

pub returns-in-Joined-clause-touches : goal.returns-in-Joined-clause-touches
returns-in-Joined-clause-touches c = λ t. (record { offset = c.in-Joined.offset; bytes = c.in-Joined.bytes.items }, ap opened c.in-Joined.is, omega (arith, eqb-true _ _ t, c.len.ensures, c.in-Joined.bytes.ok.0))
