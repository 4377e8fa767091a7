use Rattle.std.proofs.Common.{ℕ, ◌≡◌, ◌+◌, ◌∙◌, ◌∷◌, List, drop, get_or, subst}
use Rattle.std.proofs.lemmas.List.{drop_more}
use Rattle.pg_edges.specs.declared.key.Key.{Key}
use Rattle.pg_edges.specs.declared.key.Key.TheVariants.{Place}
use Rattle.pg_unacked.proofs.Comings.{come_kept, tagged_more}
use Rattle.pg_unacked.proofs.DueKeys.{come_others, others_on}
use Rattle.pg_unacked.proofs.replacing.add_tagged.Goals as goal

pub loop-tagged-preserved : goal.loop-tagged-preserved
loop-tagged-preserved c =
    let old = c.loop-tagged.invariant in
    let u = c.loop-tagged.unacked in
    let v = c.insert.new.self in
    let i = c.loop-tagged.tagged-index in
    let ks = c.args.keys.now in
    let xs = c.as_slice-tagged-items.result.now in
    let t : Key × ℕ = get_or xs i (Place, 0) in
    let at = subst (λ (ys : List (Key × ℕ)). drop i ys ≡ t ∷ drop (i + 1) ys) c.as_slice-tagged-items.ensures (drop_more xs i (Place, 0) c.loop-tagged-test.true) in
    record {
      others = others_on c.args.unacked.now u v c.args.file old.others (come_others u v c.args.peer c.args.file t.0 c.in_ok-insert.ensures.ok);
      kept = λ p k was. come_kept u v c.args.peer c.args.file t.0 c.in_ok-insert.ensures.ok p k (old.kept p k was);
      own = λ p k.
          tagged_more u v c.args.file c.args.peer (drop i ks) (drop (i + 1) ks) t at c.in_ok-insert.ensures.ok p k
          ∙ old.own p k;
    }
