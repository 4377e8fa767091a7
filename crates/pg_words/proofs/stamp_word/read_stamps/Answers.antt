use Rattle.std.proofs.Common.{[], ap, ◌∙◌}
use Rattle.std.proofs.lemmas.Bool.{iff_false}
use Rattle.pg_base.specs.StampText.{stamp_text}
use Rattle.pg_words.specs.StampWord.{IsStamp}
use Rattle.pg_words.proofs.Lacking.{comma, Lacks-stamp}
use Rattle.pg_words.proofs.ListWords.{texts, none_at, all_read}
use Rattle.pg_words.proofs.stamp_word.read_stamps.Goals as goal

pub returns-in_default-clause-none : goal.returns-in_default-clause-none
returns-in_default-clause-none c =
    none_at stamp_text IsStamp (λ x h. Lacks-stamp 44 x comma h) c.args.word.now c.deref-item-items.result.now c.loop-item.item-index (record { ref_ptr = (0, 0); now = [] })
    (iff_false c.is_same.ensures c.if-is_same.false) (ap texts c.deref-item-items.ensures.value ∙ c.in_ok-items.ensures) c.loop-item-test.true c.in_default.ensures.none

pub returns-clause-found : goal.returns-clause-found
returns-clause-found c = (
  c.loop-item.invariant.each,
  all_read stamp_text c.loop-item.stamps c.deref-item-items.result.now c.loop-item.item-index c.args.word.now c.loop-item-test.false c.loop-item.invariant.so_far (ap texts c.deref-item-items.ensures.value ∙ c.in_ok-items.ensures),
)
