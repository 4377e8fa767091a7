use Rattle.std.proofs.Common.{◌≡◌, Some, subst}
use Rattle.pg_names.specs.Names.{known}
use Rattle.pg_store.specs.declared.store.Store.{Store}
use Rattle.pg_replay.proofs.Showing.{held_printed}
use Rattle.pg_replay.proofs.shown.write_held.Goals as goal

pub returns-clause-spelled : goal.returns-clause-spelled
returns-clause-spelled c =
    held_printed c.args.server c.args.store.now c.args.id c.in-Some.held.now c.in_ok-shown.shown
    (subst (λ (b : Store). Some c.in-Some.held.now ≡ known b.names c.args.id) c.store.view_is c.in-Some.ensures) c.in_ok-shown.ensures
    c.write_replica.ensures.spelled
