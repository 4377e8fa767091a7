use Rattle.std.proofs.Common.{arith, ap, ◌∙◌}
use Rattle.pg_meter.specs.Note.{seen_if_in}
use Rattle.pg_meter.proofs.Steps.{seen_more, drop_more}
use Rattle.pg_meter.proofs.meter.see_all.Goals as goal

pub loop-slot-preserved : goal.loop-slot-preserved
loop-slot-preserved g c = record {
  values = seen_more _ (seen_if_in c.args.note.now) c.loop-slot.slot-items c.args.meters.now.items c.loop-slot.slot-index c.slot-item.result c.see_one.new.slot
      c.loop-slot.invariant.values c.loop-slot.invariant.rest (omega arith) c.see_one.ensures;
  rest = drop_more c.loop-slot.slot-items c.args.meters.now.items c.loop-slot.slot-index c.see_one.new.slot c.loop-slot.invariant.rest;
}
