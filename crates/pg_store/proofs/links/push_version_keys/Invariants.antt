use Rattle.std.proofs.Common.{◌≡◌, ◌++◌, drop}
use Rattle.pg_replica.specs.Replica.{keys}
use Rattle.pg_store.proofs.links.push_version_keys.Given as goal

abbrev pub invariant-loop-version : goal.invariant-loop-version
invariant-loop-version l = l.keys ++ keys (drop l.version-index l.heads) ≡ l.fn.keys ++ keys l.heads
