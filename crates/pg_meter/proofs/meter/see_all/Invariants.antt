use Rattle.std.proofs.Common.{◌≡◌, ℕ, map, take, drop, option_map}
use Rattle.pg_meter.specs.Note.{reading, seen_by_all}
use Rattle.pg_meter.proofs.meter.see_all.Given as goal

abbrev pub invariant-loop-slot : goal.invariant-loop-slot
invariant-loop-slot g l = record {
  values : map (λ o. option_map (λ m. reading ((goal.Meter-dyn g (m.vtable, m.value)).counts m.value) ((goal.Meter-dyn g (m.vtable, m.value)).counted m.value)) o) (take l.slot-index l.slot-items)
      ≡ seen_by_all l.note (map (λ o. option_map (λ m. reading ((goal.Meter-dyn g (m.vtable, m.value)).counts m.value) ((goal.Meter-dyn g (m.vtable, m.value)).counted m.value)) o) (take l.slot-index l.fn.meters.items));
  rest : drop l.slot-index l.slot-items ≡ drop l.slot-index l.fn.meters.items;
}
