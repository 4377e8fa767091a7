use Rattle.std.proofs.Common.{rules, ◌≡◌, sym, subst}
use Rattle.pg_cells.specs.pg_store.declared.store.Store.{Store}
use Rattle.pg_calls.specs.Making.{HasNoVersion}
use Rattle.pg_calls.specs.Naming.{with_thing}
use Rattle.pg_calls.proofs.New.{thing_new}
use Rattle.pg_calls.proofs.naming.make_thing.Goals as goal

pub returns-clause-empty : goal.returns-clause-empty
returns-clause-empty c =
    let a = c.args in
    let made = with_thing a.store.now a.work.now a.id a.policy a.new in
    let is : c.raise_flag.new.store ≡ made.store = search rules in
    subst (λ (s : Store). HasNoVersion s a.id) (sym is) (thing_new a.store.now a.work.now a.id a.policy a.new)
