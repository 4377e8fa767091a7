use Rattle.std.proofs.Common.{◌≡◌, map, take}
use Rattle.std.specs.List.{AllByRecursion}
use Rattle.pg_call.specs.Reply.{IsRow, row_word}
use Rattle.pg_words.proofs.ListWords.{texts}
use Rattle.pg_journal_lines.proofs.reply.rows_of.Given as goal

abbrev pub invariant-loop-word : goal.invariant-loop-word
invariant-loop-word l = record {
  each : AllByRecursion IsRow l.rows;
  so_far : map row_word l.rows ≡ texts (take l.word-index l.words);
}
