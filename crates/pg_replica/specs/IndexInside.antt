-- What the fields of a server's replicas keep.
use Rattle.std.specs.Prelude.{◌≡◌, true}
use Rattle.pg_replica.specs.declared.replicas.Replicas.TheInside.{Inside}
use Rattle.pg_replica.specs.InOrder.{in_order}
use Rattle.pg_replica.specs.Index.{IsIndex, IsIndexBy, KnowsNoEnd}
use Rattle.pg_replica.specs.Unacked.{AreDue}

-- unacknowledged: every replica with an unacknowledged key is listed
-- ended: every replica that knows a number at its end is listed
-- due: what is due to peers is what the edges of the replicas have
pub record AreIndexed (r : Inside) : Type 0 where
  pub unacknowledged : IsIndex r.lists.unacknowledged.entries (in_order r.by_file.entries)
  pub ended : IsIndexBy KnowsNoEnd r.lists.ended.entries (in_order r.by_file.entries)
  pub due : AreDue r.lists.unacked (in_order r.by_file.entries)
