use Rattle.std.proofs.Common.{take}
use Rattle.std.specs.List.{AllByRecursion}
use Rattle.law_written.specs.Widths.{HasFlagWidth}
use Rattle.law_states.proofs.widths.flags_have_widths.Given as goal

abbrev pub invariant-loop-flag : goal.invariant-loop-flag
invariant-loop-flag l = AllByRecursion HasFlagWidth (take l.flag-index l.flags)
