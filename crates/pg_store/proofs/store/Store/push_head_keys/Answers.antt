use Rattle.std.proofs.Common.{◌++◌, ◌∙◌, Option, sym, ap}
use Rattle.std.proofs.lemmas.List.{append-nil}
use Rattle.pg_replica.specs.declared.replica.Replica.{Replica}
use Rattle.pg_replica.specs.Replica.{keys}
use Rattle.pg_replica.specs.Replicas.{or_nothing}
use Rattle.pg_store.proofs.store.Store.push_head_keys.Goals as goal

pub returns-in_default : goal.returns-in_default
returns-in_default c =
    sym (append-nil c.args.keys.now)
    ∙ ap (λ (o : Option Replica). c.args.keys.now ++ keys (or_nothing o).content.heads) c.in_default.ensures
