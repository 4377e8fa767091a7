use Rattle.std.proofs.Common.{◌≡◌, ◌++◌, map, take}
use Rattle.std.specs.List.{AllByRecursion, flat_map}
use Rattle.pg_msg.specs.UpdateText.{IsUpdate}
use Rattle.pg_trace.specs.declared.journal_line.JournalLine.TheVariants as printed
use Rattle.pg_trace.specs.JournalLine.{printed_text}
use Rattle.pg_trace.specs.Suited.{SuitsUpdate}
use Rattle.pg_trace.proofs.writing.write_made.Given as goal

abbrev pub invariant-loop-update : goal.invariant-loop-update
invariant-loop-update l = record {
  text : l.out ≡ l.fn.out ++ flat_map printed_text (map printed.Made (take l.update-index l.made));
  fit : AllByRecursion (λ u. SuitsUpdate u → IsUpdate u) (take l.update-index l.made);
}
