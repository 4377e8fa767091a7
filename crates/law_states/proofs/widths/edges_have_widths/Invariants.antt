use Rattle.std.proofs.Common.{take}
use Rattle.std.specs.List.{AllByRecursion}
use Rattle.law_states.specs.Widths.{HasEdgeWidth}
use Rattle.law_states.proofs.widths.edges_have_widths.Given as goal

abbrev pub invariant-loop-edge : goal.invariant-loop-edge
invariant-loop-edge l = AllByRecursion HasEdgeWidth (take l.edge-index l.edges)
