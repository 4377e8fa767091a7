use Rattle.std.proofs.Common.{take}
use Rattle.std.specs.List.{AllByRecursion}
use Rattle.pg_base.specs.Id.{Fits}
use Rattle.law_lengths.proofs.types.rows_fit.Given as goal

abbrev pub invariant-loop-row : goal.invariant-loop-row
invariant-loop-row l = AllByRecursion (λ row. Fits row.child) (take l.row-index l.rows)
