use Rattle.std.proofs.Common.{sym, ◌∙◌, [], arith}
use Rattle.pg_sched.proofs.Words.{deliver_line}
use Rattle.pg_world.specs.Played.{final}
use Rattle.pg_replay.proofs.Gone.{Reaches-refl, delivery_goes, goes_same}
use Rattle.pg_replay.proofs.Settled.{deliveries_over, delivers_none}
use Rattle.pg_replay.proofs.journal.Replay.deliver_all.Goals as goal

pub happen_within-requires-clause-line : goal.happen_within-requires-clause-line
happen_within-requires-clause-line c = deliver_line 1 (omega arith)

pub loop-left-preserved : goal.loop-left-preserved
loop-left-preserved c =
    let a = c.loop-left.self in
    let b = c.happen_within.new.self in
    let some = sym c.has_message.ensures ∙ c.if-has_message.true in
    let one = c.in_ok-happen_within.ensures in
    record {
      going = one.going;
      whole = λ end rest. c.loop-left.invariant.whole end (delivery_goes a b end c.loop-left.left c.loop-left-test.true some one rest);
    }

pub returns-else-has_message : goal.returns-else-has_message
returns-else-has_message c =
    let a = c.loop-left.self in
    let none = delivers_none a.world.servers (final a.world) c.loop-left.left (sym c.has_message.ensures ∙ c.if-has_message.false) in
    c.loop-left.invariant.whole a (goes_same a a [] _ (sym none) (Reaches-refl a c.loop-left.invariant.going))

pub returns-after-loop-left : goal.returns-after-loop-left
returns-after-loop-left c =
    let a = c.loop-left.self in
    let none = deliveries_over a.world.servers (final a.world) c.loop-left.left (let f = c.loop-left-test.false in omega arith) in
    c.loop-left.invariant.whole a (goes_same a a [] _ (sym none) (Reaches-refl a c.loop-left.invariant.going))
