use Rattle.std.proofs.Common.{ap, ◌∙◌, ◌||◌, ◌+◌, drop}
use Rattle.std.proofs.lemmas.List.{drop_more}
use Rattle.pg_store.specs.Seekers.{is_touched}
use Rattle.pg_store.proofs.seekers.Seekers.mark_each.Goals as goal

pub loop-it-preserved : goal.loop-it-preserved
loop-it-preserved c =
    let ts = c.args.touched.now in
    let i = c.loop-it.it-index in (
      λ q free rest. (
          let both = c.mark.ensures.more q free in
          c.loop-it.invariant.0 q both.1
          (ap (is_touched q) (drop_more ts i _ c.loop-it-test.true) ∙ ap (λ b. b || is_touched q (drop (i + 1) ts)) both.0 ∙ rest)),
      c.mark.ensures.walkers ∙ c.loop-it.invariant.1,
      c.mark.ensures.whole,
    )
