use Rattle.std.proofs.Common.{◌≡◌}
use Rattle.pg_make.specs.Made.{first_lines, first_words}
use Rattle.pg_replay.specs.Soaked.{HasSoaked}
use Rattle.pg_replay.proofs.soak.Soak.take_events.Given as goal

abbrev pub invariant-loop-event : goal.invariant-loop-event
invariant-loop-event l = record {
  soaked : HasSoaked l.servers (first_lines l.servers l.event (first_words l.seed)).0 l.self;
  words : l.words ≡ (first_lines l.servers l.event (first_words l.seed)).1;
}
