use Rattle.std.proofs.Common.{◌+◌, ◌∙◌, drop}
use Rattle.pg_unacked.proofs.DueKeys.{come_others, key_more, others_on, pieces_from}
use Rattle.pg_unacked.proofs.owing.add_key.Goals as goal

pub loop-edge-preserved : goal.loop-edge-preserved
loop-edge-preserved c =
    let old = c.loop-edge.invariant in
    let u = c.loop-edge.unacked in
    let v = c.insert.new.self in
    let e = c.edge-item.result in
    let i = c.loop-edge.edge-index in
    record {
      others = others_on c.args.unacked.now u v c.args.file old.others (come_others u v e.peer c.args.file c.args.key c.in_ok-insert.ensures.ok);
      own = λ p k.
          key_more u v c.args.file c.args.key (drop i c.args.edges.now) (drop (i + 1) c.args.edges.now) e
          (pieces_from c.args.edges.now i e c.loop-edge-test.true c.edge-item.is) c.in_ok-insert.ensures.ok p k
          ∙ old.own p k;
    }
