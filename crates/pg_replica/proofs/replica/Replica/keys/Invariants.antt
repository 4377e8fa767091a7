use Rattle.std.proofs.Common.{◌≡◌, ◌++◌, drop}
use Rattle.pg_replica.specs.Replica.{keys}
use Rattle.pg_replica.proofs.replica.Replica.keys.Given as goal

abbrev pub invariant-loop-version : goal.invariant-loop-version
invariant-loop-version l = l.keys ++ keys (drop l.version-index l.version-items) ≡ keys l.version-items
