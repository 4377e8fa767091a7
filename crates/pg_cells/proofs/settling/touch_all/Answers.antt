use Rattle.std.proofs.Common.{ap, sym, ◌∙◌, ◌+◌, drop}
use Rattle.std.proofs.lemmas.List.{at_drop_more}
use Rattle.pg_pieces.specs.pg_store.declared.store.Store.{Store}
use Rattle.pg_cells.specs.Settling.{touch_all}
use Rattle.pg_cells.proofs.settling.touch_all.Goals as goal

pub loop-t-preserved : goal.loop-t-preserved
loop-t-preserved c =
    let ts = c.args.touched.now in
    let i = c.loop-t.t-index in
    ap (λ (s : Store). touch_all s (drop (i + 1) ts)) c.in_ok-touch.ensures
    ∙ sym (at_drop_more (touch_all c.loop-t.store) ts i _ c.loop-t-test.true) ∙ c.loop-t.invariant
