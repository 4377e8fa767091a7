use Rattle.std.proofs.Common.{sym, ap, subst, ◌∙◌}
use Rattle.pg_run.specs.Run.{World, next, world_after, run, run_from, start}
use Rattle.pg_world.specs.Stands.{Stands}
use Rattle.pg_run.proofs.Frame.{run_more}
use Rattle.pg_world.proofs.world.World.step.Goals as goal

pub invariant_of-self-2 : goal.invariant_of-self-2
invariant_of-self-2 c =
    let n = c.self.inside.servers in
    let count = c.self.invariant.count c.if-self.false in
    let w = run n c.self.inside.events in
    let P : World → Type 0 = (λ x. Stands c.step.new.self x) in
    record {
      few = c.self.invariant.few;
      count = λ e. c.in_ok-entry.ensures.count ∙ count;
      stands = λ e. subst P
          (ap (λ k. world_after w (next k w c.args.event)) count ∙ sym (run_more n (start n) c.self.inside.events c.args.event) ∙ ap (run_from n (start n)) (sym c.in_ok-push.ensures))
          (c.in_ok-entry.ensures.state w (c.self.invariant.stands c.if-self.false));
    }
