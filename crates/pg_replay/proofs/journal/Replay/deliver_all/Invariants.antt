use Rattle.std.proofs.Common.{◌≡◌, false}
use Rattle.pg_world.specs.Played.{final}
use Rattle.pg_replay.specs.declared.journal.Replay.{Replay}
use Rattle.pg_replay.specs.Going.{GoesOn}
use Rattle.pg_replay.specs.Settling.{deliveries}
use Rattle.pg_replay.proofs.journal.Replay.deliver_all.Given as goal

-- whatever goes on from here by what is left goes on from the start by all
abbrev pub invariant-loop-left : goal.invariant-loop-left
invariant-loop-left l = record {
  going : l.self.world.failed ≡ false;
  whole : (end : Replay) → GoesOn l.self end (deliveries l.self.world.servers (final l.self.world) l.left)
      → GoesOn l.fn.self end (deliveries l.fn.self.world.servers (final l.fn.self.world) l.fn.most);
}

abbrev pub decreases-loop-left : goal.decreases-loop-left
decreases-loop-left l = l.left
