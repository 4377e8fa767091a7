use Rattle.std.proofs.Common.{None, Option, OnOk, IfOk, subst, sym}
use Rattle.pg_event.specs.declared.entry.VoidCause.{VoidCause}
use Rattle.pg_world.specs.Stands.{IsEntryBy, IsStepEntry, StepsBehind}
use Rattle.pg_world.proofs.Standing.{acted, all_ok, idled, then_if}
use Rattle.pg_world.proofs.machine.Machine.serve.Goals as goal

pub act-requires : goal.act-requires
act-requires c = c.requires c.in-None.is

pub returns-in-Some-clause-state : goal.returns-in-Some-clause-state
returns-in-Some-clause-state c =
    let m = c.args.self.now in
    subst (λ (v : Option VoidCause). StepsBehind m m v c.args.event c.args.server c.args.input) (sym c.in-Some.is)
    (λ w h adds. idled m w c.args.event c.in-Some.cause h adds)

pub returns-in-None-clause-state : goal.returns-in-None-clause-state
returns-in-None-clause-state c =
    let m = c.args.self.now in
    let b = c.act.new.self in
    let r = c.act.result in
    subst (λ (v : Option VoidCause). OnOk r (StepsBehind m b v c.args.event c.args.server c.args.input)) (sym c.in-None.is)
    (all_ok r _ _ _ _ c.act.ensures.servers c.act.ensures.bag c.act.ensures.removed
    (λ servers bag kept. λ w h adds. acted m b w c.args.event c.args.server c.args.input h adds servers bag kept))

pub returns-in-Some-clause-entry : goal.returns-in-Some-clause-entry
returns-in-Some-clause-entry c =
    let m = c.args.self.now in
    subst (λ (v : Option VoidCause). IsStepEntry m v c.args.event c.args.server c.args.input c.idle_entry.result) (sym c.in-Some.is)
    (λ w h. c.idle_entry.ensures)

pub returns-in-None-clause-entry : goal.returns-in-None-clause-entry
returns-in-None-clause-entry c =
    let m = c.args.self.now in
    let r = c.act.result in
    subst (λ (v : Option VoidCause). IfOk r (IsStepEntry m v c.args.event c.args.server c.args.input)) (sym c.in-None.is)
    (then_if r (IsEntryBy m c.args.event c.args.server c.args.input) (IsStepEntry m None c.args.event c.args.server c.args.input) c.act.ensures.entry
    (λ entry by. λ w h. by w.stores h.each))
