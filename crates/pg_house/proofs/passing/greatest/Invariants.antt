use Rattle.std.proofs.Common.{◌≡◌, drop}
use Rattle.pg_house.specs.Passing.{greatest}
use Rattle.pg_house.proofs.passing.greatest.Given as goal

abbrev pub invariant-loop-dir : goal.invariant-loop-dir
invariant-loop-dir l = greatest l.names l.file l.top (drop l.dir-index l.dirs) ≡ greatest l.names l.file l.own l.dirs
