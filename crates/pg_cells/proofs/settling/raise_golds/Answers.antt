use Rattle.pg_cells.proofs.Raising.{one_gold}
use Rattle.pg_cells.proofs.settling.raise_golds.Goals as goal

pub loop-file-preserved : goal.loop-file-preserved
loop-file-preserved c =
    one_gold c.loop-file.store _ c.loop-file.work _ c.args.files.now c.loop-file.file-index _ _
    c.loop-file-test.true c.in_ok-raise_gold.ensures.store c.in_ok-raise_gold.ensures.work c.loop-file.invariant
