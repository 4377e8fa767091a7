use Rattle.law_states.specs.Widths.{HasTaggedWidth}
use Rattle.law_states.proofs.Pushed.{all_more}
use Rattle.law_states.proofs.widths.keys_have_widths.Goals as goal

pub loop-tagged-preserved : goal.loop-tagged-preserved
loop-tagged-preserved c =
    all_more HasTaggedWidth c.args.keys.now c.loop-tagged.tagged-index _ c.loop-tagged-test.true c.loop-tagged.invariant c.tagged_has_widths.ensures
