use Rattle.std.specs.Map.{keys_of}
use Rattle.pg_names.proofs.Marking.{Goes}
use Rattle.pg_names.proofs.marks.mark_all.Given as goal

abbrev pub invariant-loop-file : goal.invariant-loop-file
invariant-loop-file l = Goes l.initial.marks l.marks (keys_of l.held.held) l.file-iterator
