use Rattle.std.proofs.Common.{◌+◌, ◌∙◌, drop}
use Rattle.pg_unacked.proofs.DueKeys.{go_others, key_less, others_on, pieces_from}
use Rattle.pg_unacked.proofs.owing.drop_key.Goals as goal

pub loop-edge-preserved : goal.loop-edge-preserved
loop-edge-preserved c =
    let old = c.loop-edge.invariant in
    let u = c.loop-edge.unacked in
    let v = c.remove.new.self in
    let e = c.edge-item.result in
    let i = c.loop-edge.edge-index in
    record {
      others = others_on c.args.unacked.now u v c.args.file old.others (go_others u v e.peer c.args.file c.args.key c.remove.ensures);
      own = λ p k.
          key_less u v c.args.file c.args.key (drop i c.args.edges.now) (drop (i + 1) c.args.edges.now) e
          (pieces_from c.args.edges.now i e c.loop-edge-test.true c.edge-item.is) c.remove.ensures p k
          ∙ old.own p k;
    }
