use Rattle.std.proofs.Common.{◌∙◌}
use Rattle.pg_replay.proofs.Showing.{any_more, one_shown}
use Rattle.pg_replay.proofs.journal.Replay.show_held.Goals as goal

pub loop-k-preserved : goal.loop-k-preserved
loop-k-preserved c =
    let a = c.args.self.now in
    let b = c.loop-k.self in
    let id = c.args.id.now in
    record {
      shown = one_shown a b c.show_at.new.self id c.loop-k.k c.loop-k.invariant.shown c.in_ok-here.ensures.lines;
      any = c.either-any.ensures ∙ any_more a b id c.loop-k.k c.loop-k.any _ _ c.loop-k.invariant.shown c.loop-k.invariant.any c.in_ok-here.ensures.any;
    }
