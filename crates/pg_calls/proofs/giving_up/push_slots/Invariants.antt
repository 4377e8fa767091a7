use Rattle.std.proofs.Common.{◌≡◌, ◌++◌}
use Rattle.std.specs.Map.{keys_of}
use Rattle.pg_calls.specs.GivingUp.{slots_to}
use Rattle.pg_calls.proofs.giving_up.push_slots.Given as goal

abbrev pub invariant-loop-child : goal.invariant-loop-child
invariant-loop-child l = l.slots ++ slots_to l.dir l.child-iterator ≡ l.fn.slots ++ slots_to l.dir (keys_of l.held.entries)
