use Rattle.std.proofs.Common.{◌≡◌, ◌++◌, Some, map, option_map}
use Rattle.pg_meter.specs.Note.{reading}
use Rattle.pg_meter.proofs.meter.hand_in.Given as goal

-- those that are handed in, and behind them those that are left
abbrev pub invariant-loop-meter : goal.invariant-loop-meter
invariant-loop-meter g l =
    map (λ o. option_map (λ m. reading ((goal.Meter-dyn g (m.vtable, m.value)).counts m.value) ((goal.Meter-dyn g (m.vtable, m.value)).counted m.value)) o) l.slots.items
    ++ map (λ m. Some (reading ((goal.Meter-dyn g (m.vtable, m.value)).counts m.value) ((goal.Meter-dyn g (m.vtable, m.value)).counted m.value))) l.meter-iterator.rest.items
    ≡ map (λ m. Some (reading ((goal.Meter-dyn g (m.vtable, m.value)).counts m.value) ((goal.Meter-dyn g (m.vtable, m.value)).counted m.value))) l.fn.meters.items
