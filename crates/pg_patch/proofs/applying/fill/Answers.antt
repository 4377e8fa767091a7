use Rattle.std.proofs.Common.{arith}
use Rattle.pg_patch.proofs.Built.{fills}
use Rattle.pg_patch.proofs.applying.fill.Goals as goal

pub returns : goal.returns
returns c =
    fills c.args.out.now.items c.extend_from_slice.new.self.items c.resize.new.self.items c.args.body.now c.args.len c.min-from.result c.min-until.result _ c.requires
    (omega (arith, c.min-until.ensures)) (omega (arith, c.min-from.ensures, c.args.out.now.ok.0)) c.in_ok-extend_from_slice.ensures.items
    (omega (arith, c.extend_from_slice.new.self.ok.0)) c.in_ok-resize.ensures.items
