use Rattle.std.proofs.Common.{◌∙◌, ap}
use Rattle.pg_server.specs.Local.{Effect}
use Rattle.pg_server.proofs.Results.{heard}
use Rattle.pg_server.proofs.receiving.arrival_effect.Goals as goal

pub returns-in_ok-closed-clause-store : goal.returns-in_ok-closed-clause-store
returns-in_ok-closed-clause-store c =
    c.in_ok-closed.ensures.store ∙ ap (λ (e : Effect). e.store)
    (heard c.args.store.now c.args.packet c.new-work.result c.is_heard.result c.receive.new.store c.receive.new.work
    c.new-work.ensures c.is_heard.ensures c.if-is_heard.true c.in_ok-receive.ensures.store c.in_ok-receive.ensures.work)

pub returns-in_ok-closed-clause-out : goal.returns-in_ok-closed-clause-out
returns-in_ok-closed-clause-out c =
    c.in_ok-closed.ensures.out ∙ ap (λ (e : Effect). e.out)
    (heard c.args.store.now c.args.packet c.new-work.result c.is_heard.result c.receive.new.store c.receive.new.work
    c.new-work.ensures c.is_heard.ensures c.if-is_heard.true c.in_ok-receive.ensures.store c.in_ok-receive.ensures.work)
