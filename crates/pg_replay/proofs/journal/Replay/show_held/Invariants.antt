use Rattle.std.proofs.Common.{◌≡◌, []}
use Rattle.pg_run.specs.Quiet.{has_some}
use Rattle.pg_world.specs.Played.{final}
use Rattle.pg_replay.specs.Going.{Reaches}
use Rattle.pg_replay.specs.Text.{shows_lines}
use Rattle.pg_replay.proofs.journal.Replay.show_held.Given as goal

abbrev pub invariant-loop-k : goal.invariant-loop-k
invariant-loop-k l = record {
  shown : Reaches l.fn.self l.self [] (shows_lines l.fn.self.world.servers (final l.fn.self.world) l.id l.k);
  any : l.any ≡ has_some (shows_lines l.fn.self.world.servers (final l.fn.self.world) l.id l.k);
}
