use Rattle.pg_world.specs.Played.{final}
use Rattle.pg_replay.specs.Going.{GoesOn}
use Rattle.pg_replay.specs.Settling.{ticks}
use Rattle.pg_replay.proofs.journal.Replay.tick_all.Given as goal

abbrev pub invariant-loop-k : goal.invariant-loop-k
invariant-loop-k l =
    GoesOn l.fn.self l.self (ticks l.fn.self.world.servers l.moment (final l.fn.self.world) l.k)
