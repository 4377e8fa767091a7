use Rattle.std.proofs.Common.{◌≡◌, take, map}
use Rattle.pg_base.specs.Version.{stamp_of}
use Rattle.pg_replica.proofs.replica.Replica.bases.Given as goal

abbrev pub invariant-loop-version : goal.invariant-loop-version
invariant-loop-version l = l.stamps ≡ map stamp_of (take l.version-index l.version-items)
