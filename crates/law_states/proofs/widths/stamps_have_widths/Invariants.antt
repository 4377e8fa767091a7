use Rattle.std.proofs.Common.{take}
use Rattle.std.specs.List.{AllByRecursion}
use Rattle.pg_codec.specs.Laws.{HasStampWidth}
use Rattle.law_states.proofs.widths.stamps_have_widths.Given as goal

abbrev pub invariant-loop-stamp : goal.invariant-loop-stamp
invariant-loop-stamp l = AllByRecursion HasStampWidth (take l.stamp-index l.stamps)
