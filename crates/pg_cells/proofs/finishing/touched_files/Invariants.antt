use Rattle.std.proofs.Common.{take}
use Rattle.pg_cells.specs.KeyFilter.{ListsTouched}
use Rattle.pg_cells.proofs.finishing.touched_files.Given as goal

abbrev pub invariant-loop-t : goal.invariant-loop-t
invariant-loop-t l = ListsTouched l.files.entries (take l.t-index l.touched)
