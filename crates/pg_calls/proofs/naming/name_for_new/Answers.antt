use Rattle.std.proofs.Common.{rules, ◌≡◌, ◌+◌, min, subst, Result}
use Rattle.pg_checks.specs.pg_lookup.declared.paths.LookupError.{LookupError}
use Rattle.pg_checks.specs.declared.checks.NewName.{NewName}
use Rattle.pg_checks.specs.Answer.{Tells}
use Rattle.pg_cells.specs.pg_store.declared.store.Store.{Store}
use Rattle.pg_calls.specs.Naming.{next_id}
use Rattle.pg_calls.proofs.InTime.{is_next, same_name}
use Rattle.pg_calls.proofs.naming.name_for_new.Goals as goal

pub returns : goal.returns
returns c =
    let seen : c.saturating_add.result ≡ min (c.store.inside.files + 1) 18446744073709551615 = search rules in
    let most = subst (λ (b : Store). c.saturating_add.result ≡ min (b.files + 1) 18446744073709551615) c.store.view_is seen in
    let P : Result NewName LookupError → Type 0 = λ r. Tells c.new_name.result r in
    subst P
    (same_name c.args.store.now _ (next_id c.args.store.now c.args.kind) c.args.text.now
    (is_next c.args.store.now c.args.kind c.server.result c.saturating_add.result c.server.ensures most))
    c.new_name.ensures
