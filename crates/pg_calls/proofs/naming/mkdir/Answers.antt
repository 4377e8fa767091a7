use Rattle.std.proofs.Common.{ap, sym, ◌∙◌}
use Rattle.pg_checks.specs.Answer.{Answer}
use Rattle.pg_calls.proofs.Made.{mkdir_is}
use Rattle.pg_calls.proofs.naming.mkdir.Goals as goal

pub returns-in_ok-make_thing-in-Ok-clause-store : goal.returns-in_ok-make_thing-in-Ok-clause-store
returns-in_ok-make_thing-in-Ok-clause-store c =
    c.in_ok-make_thing-in-Ok.ensures.store
    ∙ sym (ap (λ (a : Answer). a.store)
    (mkdir_is c.args.store.now c.give_id-id.new.store c.args.work.now c.args.text.now c.in-Ok.new c.give_id-id.result
    c.in-Ok.ensures c.give_id-id.ensures.store c.give_id-id.ensures.id))

pub returns-in_ok-make_thing-in-Ok-clause-work : goal.returns-in_ok-make_thing-in-Ok-clause-work
returns-in_ok-make_thing-in-Ok-clause-work c =
    c.in_ok-make_thing-in-Ok.ensures.work
    ∙ sym (ap (λ (a : Answer). a.work)
    (mkdir_is c.args.store.now c.give_id-id.new.store c.args.work.now c.args.text.now c.in-Ok.new c.give_id-id.result
    c.in-Ok.ensures c.give_id-id.ensures.store c.give_id-id.ensures.id))
