use Rattle.pg_graph.proofs.pg_msg.Slots.{slot_order_is}
use Rattle.pg_intentions.proofs.Steps.{one_slot}
use Rattle.pg_intentions.proofs.intending.slots_of.Goals as goal

pub loop-slot-preserved : goal.loop-slot-preserved
loop-slot-preserved c =
    one_slot _ slot_order_is c.loop-slot.slots.entries c.insert.new.self.entries c.as_slice-slot-items.result.now c.loop-slot.slot-index _ _
    c.loop-slot-test.true c.in_ok-insert.ensures.entries c.loop-slot.invariant
