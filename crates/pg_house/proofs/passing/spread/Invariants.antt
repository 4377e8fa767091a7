use Rattle.std.proofs.Common.{◌≡◌, drop}
use Rattle.pg_house.specs.Work.{state_of}
use Rattle.pg_house.specs.Passing.{spread}
use Rattle.pg_house.proofs.passing.spread.Given as goal

abbrev pub invariant-loop-dir : goal.invariant-loop-dir
invariant-loop-dir l = spread (state_of l.names l.work) l.file l.own l.top l.back (drop l.dir-index l.dirs) ≡ spread (state_of l.initial.names l.initial.work) l.file l.own l.top l.back l.dirs
