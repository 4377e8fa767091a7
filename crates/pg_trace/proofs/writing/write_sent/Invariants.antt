use Rattle.std.proofs.Common.{◌≡◌, ◌++◌, map, take}
use Rattle.std.specs.List.{AllByRecursion, flat_map}
use Rattle.pg_msg.specs.Sent.{summary}
use Rattle.pg_msg.specs.Text.{IsSummary}
use Rattle.pg_trace.specs.declared.journal_line.JournalLine.TheVariants as printed
use Rattle.pg_trace.specs.JournalLine.{printed_text}
use Rattle.pg_trace.specs.Suited.{SuitsKind}
use Rattle.pg_trace.proofs.writing.write_sent.Given as goal

abbrev pub invariant-loop-message : goal.invariant-loop-message
invariant-loop-message l = record {
  text : l.out ≡ l.fn.out ++ flat_map printed_text (map (λ m. printed.Sent (summary m)) (take l.message-index l.sent));
  fit : AllByRecursion (λ m. SuitsKind (summary m) → IsSummary (summary m)) (take l.message-index l.sent);
}
