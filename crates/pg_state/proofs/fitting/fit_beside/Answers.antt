use Rattle.pg_state.proofs.Beside.{all_beside, none_beside}
use Rattle.pg_state.proofs.fitting.fit_beside.Goals as goal

pub returns-then-not-are_counted : goal.returns-then-not-are_counted
returns-then-not-are_counted c =
    none_beside c.args.replicas.now c.args.held.now.entries c.are_counted.result c.are_counted.ensures.test c.if-not-are_counted.true

pub returns : goal.returns
returns c =
    all_beside c.args.replicas.now c.args.held.now.entries c.are_counted.result c.fit_each_held.result c.are_counted.ensures.test
    c.if-not-are_counted.false c.are_counted.ensures.by_file c.are_counted.ensures.by_id c.fit_each_held.ensures
