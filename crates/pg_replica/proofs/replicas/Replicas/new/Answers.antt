use Rattle.pg_replica.proofs.InOrder.{index_none}
use Rattle.pg_replica.proofs.Redues.{due_begun}
use Rattle.pg_replica.proofs.replicas.Replicas.new.Goals as goal

pub invariant_of-result : goal.invariant_of-result
invariant_of-result c = record {
  unacknowledged = index_none _ c.new.result.entries c.new.ensures.empty;
  ended = index_none _ c.new.result.entries c.new.ensures.empty;
  due = due_begun _ c.new.result.entries c.new-2.ensures.unacked c.new.ensures.empty;
}
