use Rattle.std.proofs.Common.{◌+◌, ◌∙◌, drop, get_or}
use Rattle.std.proofs.lemmas.List.{drop_more}
use Rattle.pg_edges.specs.declared.key.Key.TheVariants.{Place}
use Rattle.pg_unacked.proofs.DueKeys.{come_others, keys_more, others_on}
use Rattle.pg_unacked.proofs.owing.add_keys.Goals as goal

pub loop-key-preserved : goal.loop-key-preserved
loop-key-preserved c =
    let old = c.loop-key.invariant in
    let u = c.loop-key.unacked in
    let v = c.insert.new.self in
    let i = c.loop-key.key-index in
    let ks = c.args.keys.now in
    let k = get_or ks i Place in
    record {
      others = others_on c.args.unacked.now u v c.args.file old.others (come_others u v c.args.peer c.args.file k c.in_ok-insert.ensures.ok);
      own = λ p q.
          keys_more u v c.args.file c.args.peer (drop i ks) (drop (i + 1) ks) k (drop_more ks i Place c.loop-key-test.true) c.in_ok-insert.ensures.ok p q
          ∙ old.own p q;
    }
