use Rattle.pg_intentions.proofs.Filled.{fill_comes}
use Rattle.pg_intentions.proofs.fills.begin_fill.Goals as goal

pub returns-clause-store : goal.returns-clause-store
returns-clause-store c =
    fill_comes c.args.store.now c.birth_to_fill.new.store c.begin_intent.new.store c.args.file c.args.work.now c.has_fill.result c.in_ok-birth.birth
    c.first_target-target.result c.has_fill.ensures c.if-has_fill.false c.in_ok-birth.ensures.birth c.in_ok-birth.ensures.store
    c.first_target-target.ensures c.in_ok-begin_intent.ensures.store
