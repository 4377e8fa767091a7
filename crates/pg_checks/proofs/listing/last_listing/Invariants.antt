use Rattle.std.proofs.Common.{◌≡◌, drop, filter}
use Rattle.pg_checks.specs.Asking.{latest}
use Rattle.pg_checks.specs.Listing.{last_listing, lists_in}
use Rattle.pg_checks.proofs.listing.last_listing.Given as goal

abbrev pub invariant-loop-dir : goal.invariant-loop-dir
invariant-loop-dir l =
    latest l.names l.id l.latest (filter (lists_in l.names l.id) (drop l.dir-index l.dirs)) ≡ last_listing l.names l.id l.dirs
