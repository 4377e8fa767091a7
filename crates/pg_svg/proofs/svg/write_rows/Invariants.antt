use Rattle.std.proofs.Common.{◌≡◌, ◌≤◌, ◌++◌, take, drop}
use Rattle.pg_svg.specs.Svg.{rows_text}
use Rattle.pg_svg.proofs.svg.write_rows.Given as goal

abbrev pub invariant-loop-mark : goal.invariant-loop-mark
invariant-loop-mark l = l.out ≡ l.fn.out ++ rows_text l.notes (take l.mark-index l.marks)
