use Rattle.std.proofs.Common.{◌≡◌, ap, subst, ◌∙◌}
use Rattle.pg_run.specs.Run.{run}
use Rattle.pg_world.specs.Played.{Played, final}
use Rattle.pg_world.specs.Repeats.{repeats}
use Rattle.pg_world.proofs.world.World.repeats.Goals as goal

pub returns : goal.returns
returns c =
    let going = ap (λ (p : Played). p.failed) c.self.view_is ∙ c.requires in
    let w = run c.self.inside.servers c.self.inside.events in
    let P : Played → Type 0 = (λ p. c.repeats.result ≡ repeats p.servers (final p) c.args.event.now) in
    subst P c.self.view_is
    (c.repeats.ensures w (c.self.invariant.stands going)
    ∙ ap (λ k. repeats k w c.args.event.now) (c.self.invariant.count going))
