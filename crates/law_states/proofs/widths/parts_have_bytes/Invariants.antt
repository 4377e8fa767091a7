use Rattle.std.proofs.Common.{take}
use Rattle.std.specs.List.{AllByRecursion}
use Rattle.law_written.specs.Widths.{HasPartBytes}
use Rattle.law_states.proofs.widths.parts_have_bytes.Given as goal

abbrev pub invariant-loop-part : goal.invariant-loop-part
invariant-loop-part l = AllByRecursion HasPartBytes (take l.part-index l.parts)
