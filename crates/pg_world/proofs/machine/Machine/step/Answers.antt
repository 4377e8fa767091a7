use Rattle.std.proofs.Common.{OnOk, subst, sym}
use Rattle.pg_event.specs.declared.event.Event.{Event}
use Rattle.pg_world.specs.Stands.{StandsBehind}
use Rattle.pg_world.proofs.machine.Machine.step.Goals as goal

pub returns-in-Tick-clause-state : goal.returns-in-Tick-clause-state
returns-in-Tick-clause-state c =
    subst (λ (e : Event). OnOk c.tick.result (StandsBehind c.args.self.now c.tick.new.self e)) (sym c.in-Tick.is)
    c.tick.ensures.state
