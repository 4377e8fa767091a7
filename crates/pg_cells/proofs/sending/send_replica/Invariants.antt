use Rattle.std.proofs.Common.{◌≡◌, ◌++◌, drop}
use Rattle.std.specs.List.{flat_map}
use Rattle.pg_cells.specs.KeyFilter.{passes}
use Rattle.pg_cells.specs.Sending.{edge_cells, replica_cells}
use Rattle.pg_cells.proofs.sending.send_replica.Given as goal

abbrev pub invariant-loop-edge : goal.invariant-loop-edge
invariant-loop-edge l =
    l.sent ++ flat_map (edge_cells l.store (passes l.choice) l.file l.replica.birth) (drop l.edge-index l.edge-items)
    ≡ l.initial.sent ++ replica_cells l.store (passes l.choice) (l.file, l.replica)
