use Rattle.std.proofs.Common.{◌+◌, length, map, refl, sym, ◌∙◌, arith}
use Rattle.pg_event.specs.declared.quiet.Cause.TheVariants.{Owed}
use Rattle.pg_server.specs.Owing.{owed}
use Rattle.pg_world.proofs.Waiting.{first_at, none_live}
use Rattle.pg_world.proofs.machine.Machine.owed.Goals as goal

pub returns-in-Some : goal.returns-in-Some
returns-in-Some c = λ w h.
    let n = length c.args.self.now.servers.items in
    first_at n w (λ s. map Owed (owed (w.stores s))) c.loop-k.k (c.loop-k.k + 1) n c.in-Some.cause refl (c.loop-k.invariant w h) (c.in-Some.ensures w h) (omega arith)

pub loop-k-preserved : goal.loop-k-preserved
loop-k-preserved c = λ w h.
    let n = length c.args.self.now.servers.items in
    none_live n w (λ s. map Owed (owed (w.stores s))) c.loop-k.k (c.loop-k.k + 1) refl (c.loop-k.invariant w h) (sym (c.in_default.ensures w h))
