use Rattle.std.proofs.Common.{◌+◌, length, refl, sym, ◌∙◌, arith}
use Rattle.pg_run.specs.Quiet.{lag}
use Rattle.pg_world.proofs.Waiting.{first_at, none_live}
use Rattle.pg_world.proofs.machine.Machine.lagging.Goals as goal

pub returns-in-Some : goal.returns-in-Some
returns-in-Some c = λ w h.
    let n = length c.args.self.now.servers.items in
    first_at n w (lag w) c.loop-k.k (c.loop-k.k + 1) n c.in-Some.cause refl (c.loop-k.invariant w h) (c.in-Some.ensures w h) (omega arith)

pub loop-k-preserved : goal.loop-k-preserved
loop-k-preserved c = λ w h.
    let n = length c.args.self.now.servers.items in
    none_live n w (lag w) c.loop-k.k (c.loop-k.k + 1) refl (c.loop-k.invariant w h) (sym (c.in_default.ensures w h))
