use Rattle.std.proofs.Common.{◌≡◌, map, take}
use Rattle.std.specs.List.{AllByRecursion}
use Rattle.pg_base.specs.StampText.{stamp_text}
use Rattle.pg_words.specs.StampWord.{IsStamp}
use Rattle.pg_words.proofs.ListWords.{texts}
use Rattle.pg_words.proofs.stamp_word.read_stamps.Given as goal

abbrev pub invariant-loop-item : goal.invariant-loop-item
invariant-loop-item l = record {
  each : AllByRecursion IsStamp l.stamps;
  so_far : map stamp_text l.stamps ≡ texts (take l.item-index l.item-items);
}
