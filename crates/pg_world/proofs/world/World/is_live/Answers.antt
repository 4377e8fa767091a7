use Rattle.std.proofs.Common.{◌≡◌, ap, subst, ◌∙◌}
use Rattle.pg_run.specs.Run.{is_live, run}
use Rattle.pg_world.specs.Played.{Played, final}
use Rattle.pg_world.specs.Stands.{lives}
use Rattle.pg_world.proofs.Standing.{live_so}
use Rattle.pg_world.proofs.world.World.is_live.Goals as goal

pub returns : goal.returns
returns c =
    let going = ap (λ (p : Played). p.failed) c.self.view_is ∙ c.requires in
    let m = c.self.inside.machine in
    let n = c.self.inside.servers in
    let w = run n c.self.inside.events in
    let P : Played → Type 0 = (λ p. c.is_live.result ≡ is_live p.servers (final p) c.args.server) in
    subst P c.self.view_is
    (c.is_live.ensures ∙ ap (λ k. lives k m.removed c.args.server) (c.self.invariant.count going)
    ∙ live_so m w n c.args.server (c.self.invariant.stands going))
