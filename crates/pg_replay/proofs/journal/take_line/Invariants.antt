use Rattle.std.proofs.Common.{◌≡◌, drop, map, option_map}
use Rattle.pg_meter.specs.Note.{reading}
use Rattle.pg_replay.specs.Text.{seen_marks}
use Rattle.pg_replay.proofs.journal.take_line.Given as goal

-- what is left makes the whole
abbrev pub invariant-loop-mark : goal.invariant-loop-mark
invariant-loop-mark g l =
    seen_marks (map (λ o. option_map (λ m. reading ((goal.Meter-dyn g (m.vtable, m.value)).counts m.value) ((goal.Meter-dyn g (m.vtable, m.value)).counted m.value)) o) l.meters.items) (drop l.mark-index l.mark-items)
    ≡ seen_marks (map (λ o. option_map (λ m. reading ((goal.Meter-dyn g (m.vtable, m.value)).counts m.value) ((goal.Meter-dyn g (m.vtable, m.value)).counted m.value)) o) l.initial.meters.items) l.mark-items
