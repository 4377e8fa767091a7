use Rattle.std.proofs.Common.{◌==◌, ◌∙◌, ap, refl, Option}
use Rattle.pg_replica.specs.declared.replica.Replica.{Replica}
use Rattle.pg_replica.specs.Replica.{has_edge}
use Rattle.pg_replica.specs.Replicas.{or_nothing}
use Rattle.pg_store.proofs.Old.{and_none}
use Rattle.pg_store.proofs.store.Store.has_edge.Goals as goal

pub returns-in-None : goal.returns-in-None
returns-in-None c =
    let link = c.args.link.now in
    and_none (link.own == 0) _ refl ∙ ap (λ (o : Option Replica). has_edge (or_nothing o) link) c.in-None.ensures
