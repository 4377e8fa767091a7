use Rattle.std.proofs.Common.{◌∙◌, ap}
use Rattle.pg_replica.specs.InOrder.{in_order}
use Rattle.pg_replica.specs.Replicas.{ByFile}
use Rattle.pg_replica.specs.Unacked.{unacked}
use Rattle.pg_replica.proofs.AllDue.{unacked_is}
use Rattle.pg_replica.proofs.replicas.Replicas.unacked.Goals as goal

pub returns : goal.returns
returns c =
    c.get.ensures.dues
    ∙ unacked_is c.self.inside.lists.unacked (in_order c.self.inside.by_file.entries) c.args.peer c.self.invariant.unacknowledged.by_file c.self.invariant.due c.get.ensures.sorted
    ∙ ap (λ (rs : ByFile). unacked rs c.args.peer) c.self.view_is
