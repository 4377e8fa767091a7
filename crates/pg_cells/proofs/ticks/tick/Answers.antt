use Rattle.std.proofs.Common.{subst}
use Rattle.pg_pieces.specs.pg_replica.Index.{IsIndex}
use Rattle.pg_pieces.specs.pg_store.declared.store.Store.{Store}
use Rattle.pg_cells.proofs.Listed.{all_unacknowledged}
use Rattle.pg_cells.proofs.ticks.tick.Goals as goal

pub send_cells-requires : goal.send_cells-requires
send_cells-requires c =
    all_unacknowledged c.args.store.now c.unacknowledged-files.result.now.entries
    (subst (λ (b : Store). IsIndex c.unacknowledged-files.result.now.entries b.replicas) c.store.view_is c.unacknowledged-files.ensures)
