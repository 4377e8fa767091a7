use Rattle.std.proofs.Common.{◌≡◌, ◌++◌}
use Rattle.std.specs.List.{flat_map}
use Rattle.pg_pieces.specs.pg_store.Store.{replica_at}
use Rattle.pg_cells.specs.KeyFilter.{file_cells, passes}
use Rattle.pg_cells.specs.Sending.{cells_where}
use Rattle.pg_cells.proofs.sending.send_cells.Given as goal

abbrev pub invariant-loop-file : goal.invariant-loop-file
invariant-loop-file l =
    l.sent ++ flat_map (λ k. file_cells l.store (passes l.choice) k (replica_at l.store k)) l.file-iterator
    ≡ l.initial.sent ++ cells_where l.store (passes l.choice)
