use Rattle.std.proofs.Common.{ap, arith}
use Rattle.std.proofs.lemmas.List.{drop_all}
use Rattle.pg_delta.specs.Kept.{bytes_together}
use Rattle.pg_delta.proofs.kept.bytes_together.Goals as goal

pub returns : goal.returns
returns c =
    let past = ap bytes_together (drop_all c.loop-delta.delta-index c.args.deltas.now c.loop-delta-test.false) in
    let kept = c.loop-delta.invariant in
    omega arith
