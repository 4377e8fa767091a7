use Rattle.std.proofs.Common.{◌≡◌, ◌++◌, take}
use Rattle.pg_trace.specs.JournalLine.{journal_spelling}
use Rattle.pg_trace.proofs.writing.write.Given as goal

abbrev pub invariant-loop-line : goal.invariant-loop-line
invariant-loop-line l = l.out ≡ l.fn.out ++ journal_spelling (take l.line-index l.journal)
