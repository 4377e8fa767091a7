use Rattle.std.proofs.Common.{◌≡◌, drop, []}
use Rattle.pg_intentions.specs.Intending.{add_slots}
use Rattle.pg_intentions.proofs.intending.slots_of.Given as goal

abbrev pub invariant-loop-slot : goal.invariant-loop-slot
invariant-loop-slot l = add_slots l.slots.entries (drop l.slot-index l.slot-items) ≡ add_slots [] l.some
