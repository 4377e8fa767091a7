use Rattle.std.proofs.Common.{ap, arith, length}
use Rattle.pg_content.proofs.Bodies.{bodies_past}
use Rattle.pg_content.proofs.content.Content.length.Goals as goal

pub returns : goal.returns
returns c =
    let past = ap length (bodies_past c.shown_versions-version-items.result.now c.loop-version.version-index c.loop-version-test.false) in
    let all = ap length c.shown_versions-version-items.ensures in
    let i = c.loop-version.invariant in
    omega arith
