use Rattle.pg_replay.proofs.Gone.{tick_goes}
use Rattle.pg_replay.proofs.journal.Replay.tick_all.Goals as goal

pub loop-k-preserved : goal.loop-k-preserved
loop-k-preserved c =
    tick_goes c.args.self.now c.loop-k.self c.tick_at.new.self c.args.moment c.loop-k.k c.loop-k.invariant c.in_ok-tick_at.ensures
