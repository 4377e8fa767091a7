use Rattle.std.proofs.Common.{None, Some, length, map, sym, ◌∙◌}
use Rattle.pg_event.specs.declared.quiet.Cause.TheVariants.{Owed}
use Rattle.pg_server.specs.Owing.{owed}
use Rattle.pg_world.proofs.Standing.{live_is_server}
use Rattle.pg_world.proofs.Waiting.{dead_gives, live_gives, owed_none, owed_some}
use Rattle.pg_world.proofs.machine.Machine.owed_at.Goals as goal

pub server_at-requires : goal.server_at-requires
server_at-requires c = live_is_server _ c.args.self.now.removed c.args.server (sym c.is_live.ensures ∙ c.if-not-is_live.false)

pub returns-then-not-is_live : goal.returns-then-not-is_live
returns-then-not-is_live c = λ w h.
    let m = c.args.self.now in
    dead_gives (length m.servers.items) w (λ s. map Owed (owed (w.stores s))) m c.args.server h (sym c.is_live.ensures ∙ c.if-not-is_live.true)

pub returns-in-Some : goal.returns-in-Some
returns-in-Some c = λ w h.
    let m = c.args.self.now in
    live_gives (length m.servers.items) w (λ s. map Owed (owed (w.stores s))) m c.args.server (Some (Owed c.in-Some.owing)) h
    (sym c.is_live.ensures ∙ c.if-not-is_live.false)
    (owed_some c.server_at.result.now.store (w.stores c.args.server) c.in-Some.owing c.in-Some.ensures (c.server_at.ensures w h))

pub returns-in-None : goal.returns-in-None
returns-in-None c = λ w h.
    let m = c.args.self.now in
    live_gives (length m.servers.items) w (λ s. map Owed (owed (w.stores s))) m c.args.server None h
    (sym c.is_live.ensures ∙ c.if-not-is_live.false)
    (owed_none c.server_at.result.now.store (w.stores c.args.server) c.in-None.ensures (c.server_at.ensures w h))
