use Rattle.std.proofs.Common.{refl}
use Rattle.pg_unacked.proofs.Comings.{not_entered}
use Rattle.pg_replica.proofs.InOrder.{in_order-come}
use Rattle.pg_replica.proofs.replicas.put_first.Goals as goal

pub returns-in-Err-clause-none : goal.returns-in-Err-clause-none
returns-in-Err-clause-none c = not_entered _ c.enter_due.new.unacked _ c.args.file c.in_ok-enter_due.ensures.ok.others c.forget.ensures

pub returns-clause-ok : goal.returns-clause-ok
returns-clause-ok c = in_order-come c.args.by_file.now _ c.insert.new.self c.args.file c.args.replica refl c.in_default.ensures.updates
