use Rattle.std.proofs.Common.{rules}
use Rattle.std.proofs.lemmas.List.Sorted.{IsPartitionPoint-from_clause}
use Rattle.pg_base.specs.Stamp.{is_before}
use Rattle.pg_base.specs.Version.{VersionValue, stamp_of}
use Rattle.pg_content.proofs.StampOrder.{parted}
use Rattle.pg_content.proofs.Inserting.{stop-parted}
use Rattle.pg_content.proofs.writing.index_of.Goals as goal

pub returns : goal.returns
returns c =
    stop-parted stamp_of c.args.stamp c.args.heads.now c.partition_point.result c.partition_point.ensures.bound
    (IsPartitionPoint-from_clause (λ (v : VersionValue). is_before v.head.stamp c.args.stamp) c.args.heads.now c.partition_point.result c.partition_point.ensures.partitioned (parted c.args.heads.now c.args.stamp c.requires) (λ a r f called. search rules))
