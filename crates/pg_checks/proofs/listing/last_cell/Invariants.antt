use Rattle.std.proofs.Common.{◌≡◌, drop, None}
use Rattle.pg_checks.specs.Asking.{latest}
use Rattle.pg_checks.proofs.listing.last_cell.Given as goal

abbrev pub invariant-loop-dir : goal.invariant-loop-dir
invariant-loop-dir l = latest l.names l.id l.latest (drop l.dir-index l.dirs) ≡ latest l.names l.id None l.dirs
