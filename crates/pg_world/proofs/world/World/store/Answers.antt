use Rattle.std.proofs.Common.{◌≡◌, Some, ap, subst, ◌∙◌, arith}
use Rattle.std.specs.Option.{option_copied}
use Rattle.pg_run.specs.Run.{run}
use Rattle.pg_world.specs.Played.{Played, held}
use Rattle.pg_world.proofs.world.World.store.Goals as goal

pub returns-clause-held : goal.returns-clause-held
returns-clause-held c least most =
    let going = ap (λ (p : Played). p.failed) c.self.view_is ∙ c.requires in
    let count = c.self.invariant.count going in
    let servers = ap (λ (p : Played). p.servers) c.self.view_is in
    let P : Played → Type 0 = (λ p. option_copied c.store.result ≡ Some (held p c.args.server)) in
    subst P c.self.view_is
    (c.store.ensures.held (run c.self.inside.servers c.self.inside.events) (c.self.invariant.stands going) least (omega arith))
