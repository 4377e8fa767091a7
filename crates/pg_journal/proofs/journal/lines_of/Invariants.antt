use Rattle.std.proofs.Common.{◌≡◌, ◌++◌, length}
use Rattle.pg_trace.specs.JournalLine.{journal_spelling, ArePrinted}
use Rattle.pg_journal.proofs.journal.lines_of.Given as goal

abbrev pub invariant-loop-rest : goal.invariant-loop-rest
invariant-loop-rest l = record {
  each : ArePrinted l.lines.items;
  whole : l.text ≡ journal_spelling l.lines.items ++ l.rest;
}

abbrev pub decreases-loop-rest : goal.decreases-loop-rest
decreases-loop-rest l = length l.rest
