use Rattle.std.proofs.Common.{sym, ◌∙◌, [], arith}
use Rattle.pg_world.specs.Played.{final}
use Rattle.pg_replay.proofs.Gone.{Reaches-refl, goes_same, last_goes, round_goes}
use Rattle.pg_replay.proofs.Settled.{settling_over}
use Rattle.pg_replay.proofs.journal.Replay.settle.Goals as goal

pub returns-in-Quiet : goal.returns-in-Quiet
returns-in-Quiet c =
    let a = c.loop-left.self in
    let b = c.deliver_all.new.self in
    let quiet = sym c.is_quiet.ensures.answer ∙ c.in-Quiet.is in
    c.loop-left.invariant.whole b (last_goes a b c.args.most c.args.moment c.loop-left.left c.loop-left-test.true c.in_ok-deliver_all.ensures quiet)

pub loop-left-preserved : goal.loop-left-preserved
loop-left-preserved c =
    let a = c.loop-left.self in
    let b = c.deliver_all.new.self in
    let d = c.tick_all.new.self in
    let waits = sym c.is_quiet.ensures.answer ∙ c.in-Waits.is in
    record {
      going = c.in_ok-tick_all.ensures.going;
      whole = λ end rest. c.loop-left.invariant.whole end
          (round_goes a b d end c.args.most c.args.moment c.loop-left.left _ c.loop-left-test.true c.in_ok-deliver_all.ensures waits c.in_ok-tick_all.ensures rest);
    }

pub returns : goal.returns
returns c =
    let a = c.loop-left.self in
    let none = settling_over a.world.servers c.args.most c.args.moment (final a.world) c.loop-left.left (let f = c.loop-left-test.false in omega arith) in
    c.loop-left.invariant.whole a (goes_same a a [] _ (sym none) (Reaches-refl a c.loop-left.invariant.going))
