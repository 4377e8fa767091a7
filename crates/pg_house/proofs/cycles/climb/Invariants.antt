use Rattle.std.proofs.Common.{◌≡◌, ◌-◌}
use Rattle.pg_house.specs.Cycles.{climb}
use Rattle.pg_house.proofs.cycles.climb.Given as goal

abbrev pub invariant-loop-i : goal.invariant-loop-i
invariant-loop-i l = climb l.names (l.steps - l.i) l.at ≡ climb l.names l.steps l.dir
