use Rattle.std.proofs.Common.{◌≡◌, ◌≤◌, ◌++◌, take, drop}
use Rattle.pg_svg.specs.Svg.{labels_text}
use Rattle.pg_svg.proofs.svg.write_labels.Given as goal

abbrev pub invariant-loop-leg : goal.invariant-loop-leg
invariant-loop-leg l = l.out ≡ l.fn.out ++ labels_text l.half (take l.leg-index l.legs)
