use Rattle.std.specs.List.{AllByRecursion}
use Rattle.law_states.specs.Widths.{HasWishWidth}
use Rattle.law_states.proofs.waiting.wishes_have_widths.Given as goal

abbrev pub invariant-loop-id : goal.invariant-loop-id
invariant-loop-id l = AllByRecursion HasWishWidth l.id-iterator → AllByRecursion HasWishWidth l.wishes.entries
