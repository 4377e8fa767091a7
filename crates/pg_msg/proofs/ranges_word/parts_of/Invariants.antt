use Rattle.std.proofs.Common.{◌≡◌, map, take}
use Rattle.std.specs.List.{AllByRecursion}
use Rattle.pg_msg.specs.UpdateText.{part_word}
use Rattle.pg_msg.specs.UpdateText.{IsPart}
use Rattle.pg_words.proofs.ListWords.{texts}
use Rattle.pg_msg.proofs.ranges_word.parts_of.Given as goal

abbrev pub invariant-loop-item : goal.invariant-loop-item
invariant-loop-item l = record {
  each : AllByRecursion IsPart l.parts;
  so_far : map part_word l.parts ≡ texts (take l.item-index l.item-items);
}
