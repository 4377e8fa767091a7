use Rattle.std.proofs.Common.{Some, None, rules}
use Rattle.pg_delta.proofs.Computed.{delta_computed}
use Rattle.pg_delta.proofs.kept.KeptDeltas.delta.Goals as goal

pub returns-in-Some-clause-computed : goal.returns-in-Some-clause-computed
returns-in-Some-clause-computed c =
    delta_computed c.args.self.now c.args.from.now c.args.head.now.stamp c.args.head.now.length (Some c.in-Some.ranges) (search rules)

pub returns-in_default-clause-computed : goal.returns-in_default-clause-computed
returns-in_default-clause-computed c =
    delta_computed c.args.self.now c.args.from.now c.args.head.now.stamp c.args.head.now.length None (search rules)
