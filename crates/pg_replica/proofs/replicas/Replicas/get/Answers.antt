use Rattle.std.proofs.Common.{ap, sym, ◌∙◌}
use Rattle.pg_replica.specs.Replicas.{ByFile, replica_in}
use Rattle.pg_replica.proofs.InOrder.{lookup-in_order}
use Rattle.pg_replica.proofs.replicas.Replicas.get.Goals as goal

pub returns-clause-replica : goal.returns-clause-replica
returns-clause-replica c =
    c.get.ensures.value ∙ sym (lookup-in_order c.args.file.now c.self.inside.by_file.entries)
    ∙ ap (λ (rs : ByFile). replica_in rs c.args.file.now) c.self.view_is
