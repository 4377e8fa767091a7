use Rattle.std.proofs.Common.{[], ap, ◌∙◌}
use Rattle.std.proofs.lemmas.Bool.{iff_false}
use Rattle.pg_msg.specs.UpdateText.{part_word}
use Rattle.pg_msg.specs.UpdateText.{IsPart}
use Rattle.pg_msg.proofs.Parts.{Lacks-part}
use Rattle.pg_words.proofs.Lacking.{comma}
use Rattle.pg_words.proofs.ListWords.{texts, none_at, all_read}
use Rattle.pg_msg.proofs.ranges_word.parts_of.Goals as goal

pub returns-in_default-clause-none : goal.returns-in_default-clause-none
returns-in_default-clause-none c =
    let none = rw c.in_default.is at c.in_ok-part.ensures.none in
    none_at part_word IsPart (λ x h. Lacks-part 44 x comma h) c.args.word.now c.deref-item-items.result.now c.loop-item.item-index (record { ref_ptr = (0, 0); now = [] })
    (iff_false c.is_same.ensures c.if-is_same.false) (ap texts c.deref-item-items.ensures.value ∙ c.in_ok-items.ensures) c.loop-item-test.true none

pub returns-clause-found : goal.returns-clause-found
returns-clause-found c = (
  c.loop-item.invariant.each,
  all_read part_word c.loop-item.parts c.deref-item-items.result.now c.loop-item.item-index c.args.word.now c.loop-item-test.false c.loop-item.invariant.so_far (ap texts c.deref-item-items.ensures.value ∙ c.in_ok-items.ensures),
)
