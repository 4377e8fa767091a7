use Rattle.std.proofs.Common.{◌≡◌, drop, length, None}
use Rattle.pg_house.specs.Cycles.{first_moving}
use Rattle.pg_house.proofs.cycles.first_of.Given as goal

abbrev pub invariant-loop-dir : goal.invariant-loop-dir
invariant-loop-dir l = first_moving l.names (length l.dirs) l.first (drop l.dir-index l.dirs) ≡ first_moving l.names (length l.dirs) None l.dirs
