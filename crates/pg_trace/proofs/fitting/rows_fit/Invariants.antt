use Rattle.std.proofs.Common.{take}
use Rattle.std.specs.List.{AllByRecursion}
use Rattle.pg_call.specs.Reply.{IsRow}
use Rattle.pg_trace.specs.Suited.{SuitsRow}
use Rattle.pg_trace.proofs.fitting.rows_fit.Given as goal

abbrev pub invariant-loop-row : goal.invariant-loop-row
invariant-loop-row l = AllByRecursion (λ r. SuitsRow r → IsRow r) (take l.row-index l.rows)
