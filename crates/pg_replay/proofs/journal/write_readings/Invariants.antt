use Rattle.std.proofs.Common.{◌≡◌, ◌++◌, take, map, option_map}
use Rattle.pg_meter.specs.Note.{reading}
use Rattle.pg_trace.specs.JournalLine.{ArePrinted, journal_spelling}
use Rattle.pg_replay.specs.Text.{reading_lines}
use Rattle.pg_replay.proofs.journal.write_readings.Given as goal

-- those so far are written
abbrev pub invariant-loop-slot : goal.invariant-loop-slot
invariant-loop-slot g l = record {
  text : l.out ≡ l.fn.out ++ journal_spelling (reading_lines (map (λ o. option_map (λ m. reading ((goal.Meter-dyn g (m.vtable, m.value)).counts m.value) ((goal.Meter-dyn g (m.vtable, m.value)).counted m.value)) o) (take l.slot-index l.meters.items)));
  printed : ArePrinted (reading_lines (map (λ o. option_map (λ m. reading ((goal.Meter-dyn g (m.vtable, m.value)).counts m.value) ((goal.Meter-dyn g (m.vtable, m.value)).counted m.value)) o) (take l.slot-index l.meters.items)));
}
