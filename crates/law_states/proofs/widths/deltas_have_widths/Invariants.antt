use Rattle.std.proofs.Common.{take}
use Rattle.std.specs.List.{AllByRecursion}
use Rattle.law_states.specs.Widths.{HasDeltaWidth}
use Rattle.law_states.proofs.widths.deltas_have_widths.Given as goal

abbrev pub invariant-loop-delta : goal.invariant-loop-delta
invariant-loop-delta l = AllByRecursion HasDeltaWidth (take l.delta-index l.deltas)
