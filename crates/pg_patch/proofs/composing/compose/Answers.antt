use Rattle.std.proofs.Common.{◌≡◌, min, max, arith}
use Rattle.pg_patch.proofs.Composed.{two_applies}
use Rattle.pg_patch.proofs.Over.{composed_from}
use Rattle.pg_patch.proofs.composing.compose.Goals as goal

pub returns-clause-composed : goal.returns-clause-composed
returns-clause-composed c =
    let a = c.args.a.now in
    let b = c.args.b.now in
    let keep : c.min-keep.result ≡ min a.keep b.keep = omega (arith, c.min-keep.ensures, c.keep.ensures, c.keep-2.ensures) in
    let limit : c.min-below.result ≡ min a.least b.keep = omega (arith, c.min-below.ensures, c.least.ensures, c.keep-3.ensures) in
    let least : c.max-least.result ≡ max c.min-below.result b.least = omega (arith, c.max-least.ensures, c.least-2.ensures) in
    rw c.new.ensures (composed_from a b _ c.min-below.result c.in_ok-parts.ensures.lower limit c.in_ok-parts.ensures.over keep least)

pub returns-clause-two_applies : goal.returns-clause-two_applies
returns-clause-two_applies c =
    let a = c.args.a.now in
    let b = c.args.b.now in
    let keep : c.min-keep.result ≡ min a.keep b.keep = omega (arith, c.min-keep.ensures, c.keep.ensures, c.keep-2.ensures) in
    let limit : c.min-below.result ≡ min a.least b.keep = omega (arith, c.min-below.ensures, c.least.ensures, c.keep-3.ensures) in
    let least : c.max-least.result ≡ max c.min-below.result b.least = omega (arith, c.max-least.ensures, c.least-2.ensures) in
    two_applies a b c.new.result c.in_ok-parts.ensures.lower c.in_ok-parts.ensures.upper (rw c.new.ensures (composed_from a b _ c.min-below.result c.in_ok-parts.ensures.lower limit c.in_ok-parts.ensures.over keep least))
