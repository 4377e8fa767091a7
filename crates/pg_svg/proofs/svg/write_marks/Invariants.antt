use Rattle.std.proofs.Common.{◌≡◌, ◌≤◌, ◌++◌, take, drop}
use Rattle.pg_svg.specs.Svg.{marks_text}
use Rattle.pg_svg.proofs.svg.write_marks.Given as goal

abbrev pub invariant-loop-mark : goal.invariant-loop-mark
invariant-loop-mark l = l.out ≡ l.fn.out ++ marks_text l.half (take l.mark-index l.marks)
