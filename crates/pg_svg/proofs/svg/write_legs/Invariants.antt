use Rattle.std.proofs.Common.{◌≡◌, ◌≤◌, ◌++◌, take, drop}
use Rattle.pg_svg.specs.Svg.{legs_text}
use Rattle.pg_svg.proofs.svg.write_legs.Given as goal

abbrev pub invariant-loop-leg : goal.invariant-loop-leg
invariant-loop-leg l = l.out ≡ l.fn.out ++ legs_text l.half (take l.leg-index l.legs)
