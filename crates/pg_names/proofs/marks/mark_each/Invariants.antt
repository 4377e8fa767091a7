use Rattle.std.proofs.Common.{drop}
use Rattle.pg_names.proofs.Marking.{Goes}
use Rattle.pg_names.proofs.marks.mark_each.Given as goal

abbrev pub invariant-loop-file : goal.invariant-loop-file
invariant-loop-file l = Goes l.initial.marks l.marks l.files (drop l.file-index l.file-items)
