use Rattle.std.proofs.Common.{◌∙◌, ap}
use Rattle.pg_server.specs.Local.{Effect}
use Rattle.pg_server.proofs.Results.{ticked}
use Rattle.pg_server.proofs.receiving.tick_effect.Goals as goal

pub returns-in_ok-closed-clause-store : goal.returns-in_ok-closed-clause-store
returns-in_ok-closed-clause-store c =
    c.in_ok-closed.ensures.store ∙ ap (λ (e : Effect). e.store)
    (ticked c.args.store.now c.lose_sources.new.store c.args.moment c.args.word c.new-work.result c.tick.new.work c.ask_all.new.work c.walk_of_tick.new.work
    c.is_before_clock_end.result c.new-work.ensures c.is_before_clock_end.ensures c.if-is_before_clock_end.true c.lose_sources.ensures c.in_ok-tick.ensures c.in_ok-ask_all.ensures c.in_ok-walk_of_tick.ensures)

pub returns-in_ok-closed-clause-out : goal.returns-in_ok-closed-clause-out
returns-in_ok-closed-clause-out c =
    c.in_ok-closed.ensures.out ∙ ap (λ (e : Effect). e.out)
    (ticked c.args.store.now c.lose_sources.new.store c.args.moment c.args.word c.new-work.result c.tick.new.work c.ask_all.new.work c.walk_of_tick.new.work
    c.is_before_clock_end.result c.new-work.ensures c.is_before_clock_end.ensures c.if-is_before_clock_end.true c.lose_sources.ensures c.in_ok-tick.ensures c.in_ok-ask_all.ensures c.in_ok-walk_of_tick.ensures)
