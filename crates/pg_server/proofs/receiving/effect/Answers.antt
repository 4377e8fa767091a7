use Rattle.std.proofs.Common.{◌≡◌, OnOk, IfOk, subst}
use Rattle.pg_server.specs.declared.input.Input.TheVariants as input
use Rattle.pg_server.specs.declared.input.Out.{Out}
use Rattle.pg_server.specs.Local.{Effect}
use Rattle.pg_server.proofs.Results.{of_kind}
use Rattle.pg_server.proofs.receiving.effect.Goals as goal

pub returns-in-Call-clause-store : goal.returns-in-Call-clause-store
returns-in-Call-clause-store c =
    subst (λ (e : Effect). OnOk c.call_effect.result (c.call_effect.new.store ≡ e.store))
    (of_kind c.args.store.now c.args.input (input.Call c.in-Call.moment c.in-Call.call) c.in-Call.is) c.call_effect.ensures.store

pub returns-in-Call-clause-out : goal.returns-in-Call-clause-out
returns-in-Call-clause-out c =
    subst (λ (e : Effect). IfOk c.call_effect.result (λ (out : Out). out ≡ e.out))
    (of_kind c.args.store.now c.args.input (input.Call c.in-Call.moment c.in-Call.call) c.in-Call.is) c.call_effect.ensures.out

pub returns-in-Tick-clause-store : goal.returns-in-Tick-clause-store
returns-in-Tick-clause-store c =
    subst (λ (e : Effect). OnOk c.tick_effect.result (c.tick_effect.new.store ≡ e.store))
    (of_kind c.args.store.now c.args.input (input.Tick c.in-Tick.moment c.in-Tick.word) c.in-Tick.is) c.tick_effect.ensures.store

pub returns-in-Tick-clause-out : goal.returns-in-Tick-clause-out
returns-in-Tick-clause-out c =
    subst (λ (e : Effect). IfOk c.tick_effect.result (λ (out : Out). out ≡ e.out))
    (of_kind c.args.store.now c.args.input (input.Tick c.in-Tick.moment c.in-Tick.word) c.in-Tick.is) c.tick_effect.ensures.out

pub returns-in-Arrival-clause-store : goal.returns-in-Arrival-clause-store
returns-in-Arrival-clause-store c =
    subst (λ (e : Effect). OnOk c.arrival_effect.result (c.arrival_effect.new.store ≡ e.store))
    (of_kind c.args.store.now c.args.input (input.Arrival c.in-Arrival.packet) c.in-Arrival.is) c.arrival_effect.ensures.store

pub returns-in-Arrival-clause-out : goal.returns-in-Arrival-clause-out
returns-in-Arrival-clause-out c =
    subst (λ (e : Effect). IfOk c.arrival_effect.result (λ (out : Out). out ≡ e.out))
    (of_kind c.args.store.now c.args.input (input.Arrival c.in-Arrival.packet) c.in-Arrival.is) c.arrival_effect.ensures.out

pub returns-in-Restart-clause-store : goal.returns-in-Restart-clause-store
returns-in-Restart-clause-store c =
    subst (λ (e : Effect). OnOk c.restart_effect.result (c.restart_effect.new.store ≡ e.store))
    (of_kind c.args.store.now c.args.input input.Restart c.in-Restart.is) c.restart_effect.ensures.store

pub returns-in-Restart-clause-out : goal.returns-in-Restart-clause-out
returns-in-Restart-clause-out c =
    subst (λ (e : Effect). IfOk c.restart_effect.result (λ (out : Out). out ≡ e.out))
    (of_kind c.args.store.now c.args.input input.Restart c.in-Restart.is) c.restart_effect.ensures.out
