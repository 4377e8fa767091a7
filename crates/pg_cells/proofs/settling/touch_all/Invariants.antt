use Rattle.std.proofs.Common.{◌≡◌, drop}
use Rattle.pg_cells.specs.Settling.{touch_all}
use Rattle.pg_cells.proofs.settling.touch_all.Given as goal

abbrev pub invariant-loop-t : goal.invariant-loop-t
invariant-loop-t l = touch_all l.store (drop l.t-index l.touched) ≡ touch_all l.fn.store l.touched
