use Rattle.std.proofs.Common.{take}
use Rattle.std.specs.List.{AllByRecursion}
use Rattle.law_states.specs.Widths.{HasVersionWidth}
use Rattle.law_states.proofs.widths.versions_have_widths.Given as goal

abbrev pub invariant-loop-version : goal.invariant-loop-version
invariant-loop-version l = AllByRecursion HasVersionWidth (take l.version-index l.versions)
