use Rattle.std.proofs.Common.{◌+◌, drop}
use Rattle.std.proofs.lemmas.List.{drop_more}
use Rattle.pg_intentions.specs.Seeks.{begin_seek, begin_seeks}
use Rattle.pg_graph.proofs.pg_pieces.Each.{one_each}
use Rattle.pg_intentions.proofs.seeks.begin_seeks.Goals as goal

pub loop-file-preserved : goal.loop-file-preserved
loop-file-preserved c =
    let fs = c.args.files.now in
    let i = c.loop-file.file-index in
    one_each begin_seek c.loop-file.store _ c.loop-file.work _ (drop i fs) (drop (i + 1) fs) _ (begin_seeks c.args.store.now fs c.args.work.now)
    (drop_more fs i _ c.loop-file-test.true) c.in_ok-begin_seek.ensures.store c.in_ok-begin_seek.ensures.work c.loop-file.invariant
