use Rattle.std.proofs.Common.{◌∙◌, ap}
use Rattle.pg_server.specs.Local.{Effect}
use Rattle.pg_server.proofs.Results.{restarted}
use Rattle.pg_server.proofs.receiving.restart_effect.Goals as goal

pub returns-in_ok-closed-clause-store : goal.returns-in_ok-closed-clause-store
returns-in_ok-closed-clause-store c =
    c.in_ok-closed.ensures.store ∙ ap (λ (e : Effect). e.store)
    (restarted c.args.store.now c.lose_volatile.new.store c.new-work.result c.is_before_clock_end-goes.result
    c.new-work.ensures c.is_before_clock_end-goes.ensures c.if-goes.true c.lose_volatile.ensures)

pub returns-in_ok-closed-clause-out : goal.returns-in_ok-closed-clause-out
returns-in_ok-closed-clause-out c =
    c.in_ok-closed.ensures.out ∙ ap (λ (e : Effect). e.out)
    (restarted c.args.store.now c.lose_volatile.new.store c.new-work.result c.is_before_clock_end-goes.result
    c.new-work.ensures c.is_before_clock_end-goes.ensures c.if-goes.true c.lose_volatile.ensures)
