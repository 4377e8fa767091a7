use Rattle.std.proofs.Common.{◌≡◌, ◌+◌, [], drop, false, map, option_map}
use Rattle.pg_meter.specs.Note.{reading}
use Rattle.pg_replay.specs.Text.{journal_of, text_of}
use Rattle.pg_replay.proofs.Journals.{IsLeft}
use Rattle.pg_replay.proofs.journal.journal_of.Given as goal

-- what is left to write makes the whole
abbrev pub invariant-loop-i : goal.invariant-loop-i
invariant-loop-i g l = record {
  servers : l.replay.world.servers ≡ l.initial.replay.world.servers;
  going : l.replay.world.failed ≡ false;
  counted : l.replay.marks.items ≡ [];
  left : IsLeft l.initial.replay.world.servers l.replay (map (λ o. option_map (λ m. reading ((goal.Meter-dyn g (m.vtable, m.value)).counts m.value) ((goal.Meter-dyn g (m.vtable, m.value)).counted m.value)) o) l.meters.items) (l.i + 2) (drop l.i l.lines)
      (text_of (map (λ m. reading ((goal.Meter-dyn g (m.vtable, m.value)).counts m.value) ((goal.Meter-dyn g (m.vtable, m.value)).counted m.value)) l.fn.meters.items) l.initial.replay.world.servers l.lines)
      (journal_of (map (λ m. reading ((goal.Meter-dyn g (m.vtable, m.value)).counts m.value) ((goal.Meter-dyn g (m.vtable, m.value)).counted m.value)) l.fn.meters.items) l.initial.replay.world.servers l.lines);
}
