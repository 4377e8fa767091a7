use Rattle.std.proofs.Common.{◌∙◌, ap}
use Rattle.pg_server.specs.Local.{Effect}
use Rattle.pg_server.proofs.Results.{called}
use Rattle.pg_server.proofs.receiving.call_effect.Goals as goal

pub returns-in_ok-closed-clause-store : goal.returns-in_ok-closed-clause-store
returns-in_ok-closed-clause-store c =
    c.in_ok-closed.ensures.store ∙ ap (λ (e : Effect). e.store)
    (called c.args.store.now c.args.moment c.args.call.now c.new-work.result c.is_before_clock_end-goes.result c.in_ok-reply.reply c.do_call.new.store c.do_call.new.work
    c.new-work.ensures c.is_before_clock_end-goes.ensures c.if-goes.true c.in_ok-reply.ensures.reply c.in_ok-reply.ensures.store c.in_ok-reply.ensures.work)

pub returns-in_ok-closed-clause-out : goal.returns-in_ok-closed-clause-out
returns-in_ok-closed-clause-out c =
    c.in_ok-closed.ensures.out ∙ ap (λ (e : Effect). e.out)
    (called c.args.store.now c.args.moment c.args.call.now c.new-work.result c.is_before_clock_end-goes.result c.in_ok-reply.reply c.do_call.new.store c.do_call.new.work
    c.new-work.ensures c.is_before_clock_end-goes.ensures c.if-goes.true c.in_ok-reply.ensures.reply c.in_ok-reply.ensures.store c.in_ok-reply.ensures.work)
