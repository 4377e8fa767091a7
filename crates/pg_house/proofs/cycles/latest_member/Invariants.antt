use Rattle.std.proofs.Common.{◌≡◌, ◌-◌}
use Rattle.pg_house.specs.Cycles.{latest}
use Rattle.pg_house.proofs.cycles.latest_member.Given as goal

abbrev pub invariant-loop-i : goal.invariant-loop-i
invariant-loop-i l = latest l.names (l.count - l.i) l.best l.at ≡ latest l.names l.count l.initial.best l.initial.at
