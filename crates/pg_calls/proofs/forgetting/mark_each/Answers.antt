use Rattle.std.proofs.Common.{◌+◌, drop}
use Rattle.std.proofs.lemmas.List.{drop_more}
use Rattle.pg_calls.specs.Forgetting.{mark, marked_each}
use Rattle.pg_cells.proofs.pg_pieces.Each.{one_each}
use Rattle.pg_calls.proofs.forgetting.mark_each.Goals as goal

pub loop-dir-preserved : goal.loop-dir-preserved
loop-dir-preserved c =
    let ds = c.args.dirs.now in
    let i = c.loop-dir.dir-index in
    let place = c.args.place.now in
    one_each (mark c.args.id place) c.loop-dir.store _ c.loop-dir.work _ (drop i ds) (drop (i + 1) ds) _
    (marked_each c.args.store.now c.args.id place ds c.args.work.now)
    (drop_more ds i _ c.loop-dir-test.true) c.in_ok-mark.ensures.store c.in_ok-mark.ensures.work c.loop-dir.invariant
