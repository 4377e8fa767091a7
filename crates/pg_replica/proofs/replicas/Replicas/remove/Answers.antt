use Rattle.std.proofs.Common.{[], refl, ◌∙◌, ap, sym}
use Rattle.pg_base.proofs.Orders.{file_order_is}
use Rattle.pg_replica.specs.InOrder.{in_order}
use Rattle.pg_replica.specs.Replicas.{ByFile, replica_in, without_replica}
use Rattle.pg_replica.proofs.InOrder.{lookup-in_order}
use Rattle.pg_replica.proofs.Going.{in_order-less, index_less}
use Rattle.pg_unacked.proofs.Redues.{redues_gone}
use Rattle.pg_replica.proofs.Redues.{due_less}
use Rattle.pg_replica.proofs.replicas.Replicas.remove.Goals as goal

pub invariant_of-self : goal.invariant_of-self
invariant_of-self c =
    let gone = in_order-less c.self.inside.by_file.entries c.remove-3.new.self.entries c.args.file.now c.remove-3.ensures.updates.0 in
    record {
      unacknowledged = index_less c.args.file.now (in_order c.self.inside.by_file.entries) c.self.invariant.unacknowledged _ file_order_is c.remove.ensures.updates.0 _ gone;
      ended = index_less c.args.file.now (in_order c.self.inside.by_file.entries) c.self.invariant.ended _ file_order_is c.remove-2.ensures.updates.0 _ gone;
      due = due_less (in_order c.self.inside.by_file.entries) c.self.invariant.due _ refl (redues_gone c.args.file.now _ [] c.forget.ensures refl) _ gone;
    }

pub returns-clause-replica : goal.returns-clause-replica
returns-clause-replica c =
    c.remove-3.ensures.value ∙ sym (lookup-in_order c.args.file.now c.self.inside.by_file.entries)
    ∙ ap (λ (rs : ByFile). replica_in rs c.args.file.now) c.self.view_is

pub returns-clause-replicas : goal.returns-clause-replicas
returns-clause-replicas c =
    in_order-less c.self.inside.by_file.entries c.remove-3.new.self.entries c.args.file.now c.remove-3.ensures.updates.0
    ∙ ap (λ (rs : ByFile). without_replica rs c.args.file.now) c.self.view_is
