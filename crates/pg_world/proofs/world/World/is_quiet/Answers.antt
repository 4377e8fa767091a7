use Rattle.std.proofs.Common.{◌≡◌, ◌↔◌, subst, sym, ap, ◌∙◌, arith}
use Rattle.pg_event.specs.declared.quiet.Quiet.{Quiet}
use Rattle.pg_event.specs.declared.quiet.Quiet.TheVariants as told
use Rattle.pg_run.specs.Quiet.{IsQuiet, quiet_of}
use Rattle.pg_run.specs.Run.{run}
use Rattle.pg_world.specs.Played.{Played, final}
use Rattle.pg_world.proofs.world.World.is_quiet.Goals as goal

-- what is answered is what is said of the run
pub returns-clause-answer : goal.returns-clause-answer
returns-clause-answer c =
    let going = ap (λ (p : Played). p.failed) c.self.view_is ∙ c.requires in
    let n = c.self.inside.servers in
    let w = run n c.self.inside.events in
    let P : Played → Type 0 = (λ p. c.quiet.result ≡ quiet_of p.servers (final p)) in
    subst P c.self.view_is (c.quiet.ensures w (c.self.invariant.stands going) ∙ ap (λ k. quiet_of k w) (c.self.invariant.count going))

pub returns-clause-quiet : goal.returns-clause-quiet
returns-clause-quiet c =
    let p = c.args.self.now in
    let P : Quiet → Type 0 = (λ q. (q ≡ told.Quiet) ↔ IsQuiet p.servers (final p)) in
    subst P (sym (returns-clause-answer c)) (c.quiet_is_told.ensures p.servers (final p))

-- there are few servers
pub quiet-requires : goal.quiet-requires
quiet-requires c =
    let going = ap (λ (p : Played). p.failed) c.self.view_is ∙ c.requires in
    let count = c.self.invariant.count going in
    let few = c.self.invariant.few in
    omega (arith, count, few)
