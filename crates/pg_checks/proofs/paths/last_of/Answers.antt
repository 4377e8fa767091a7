use Rattle.std.proofs.Common.{arith}
use Rattle.pg_checks.proofs.Components.{last_is}
use Rattle.pg_checks.proofs.paths.last_of.Goals as goal

pub returns : goal.returns
returns c = last_is c.args.path.now _ c.part.result.now c.requires (omega (arith, c.len.ensures.count)) c.part.ensures.bytes
