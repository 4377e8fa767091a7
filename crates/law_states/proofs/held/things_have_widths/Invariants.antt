use Rattle.std.specs.List.{AllByRecursion}
use Rattle.law_states.specs.Widths.{HasThingWidth}
use Rattle.law_states.proofs.held.things_have_widths.Given as goal

abbrev pub invariant-loop-id : goal.invariant-loop-id
invariant-loop-id l = AllByRecursion (HasThingWidth l.replicas) l.id-iterator → AllByRecursion (HasThingWidth l.replicas) l.held.entries
