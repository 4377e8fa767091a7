use Rattle.std.proofs.Common.{◌≡◌, ◌≤◌, ◌++◌, take, drop}
use Rattle.pg_svg.specs.Label.{widest_label}
use Rattle.pg_svg.proofs.label.widest_label.Given as goal

abbrev pub invariant-loop-leg : goal.invariant-loop-leg
invariant-loop-leg l = record {
  most : l.widest ≤ 90;
  same : widest_label l.widest (drop l.leg-index l.legs) ≡ widest_label l.least l.legs;
}
