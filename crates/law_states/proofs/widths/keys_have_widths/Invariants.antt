use Rattle.std.proofs.Common.{take}
use Rattle.std.specs.List.{AllByRecursion}
use Rattle.law_states.specs.Widths.{HasTaggedWidth}
use Rattle.law_states.proofs.widths.keys_have_widths.Given as goal

abbrev pub invariant-loop-tagged : goal.invariant-loop-tagged
invariant-loop-tagged l = AllByRecursion HasTaggedWidth (take l.tagged-index l.keys)
