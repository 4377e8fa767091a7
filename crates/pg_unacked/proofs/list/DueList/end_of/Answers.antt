use Rattle.std.proofs.Common.{rules}
use Rattle.std.specs.Ordering.{is_le}
use Rattle.std.proofs.lemmas.List.Sorted.{IsPartitionPoint-from_clause}
use Rattle.pg_base.specs.Id.{file_cmp}
use Rattle.pg_unacked.specs.declared.due.Due.{Due}
use Rattle.pg_unacked.proofs.Places.{upto_parted}
use Rattle.pg_unacked.proofs.list.DueList.end_of.Goals as goal

pub returns-clause-parted : goal.returns-clause-parted
returns-clause-parted c =
    rw (← c.self.view_is, ← c.deref.ensures.value)
    (IsPartitionPoint-from_clause (λ (d : Due). is_le (file_cmp d.file c.args.file.now)) c.deref.result.now c.partition_point.result c.partition_point.ensures.partitioned
    (upto_parted c.deref.result.now c.args.file.now (rw c.deref.ensures.value c.self.invariant)) (λ a r f called. search rules))
