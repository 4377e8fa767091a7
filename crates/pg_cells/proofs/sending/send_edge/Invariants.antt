use Rattle.std.proofs.Common.{◌≡◌, ◌++◌, drop}
use Rattle.std.specs.List.{flat_map}
use Rattle.pg_cells.specs.KeyFilter.{chosen_cells, passes}
use Rattle.pg_cells.specs.Sending.{edge_cells}
use Rattle.pg_cells.proofs.sending.send_edge.Given as goal

abbrev pub invariant-loop-entry : goal.invariant-loop-entry
invariant-loop-entry l =
    l.sent ++ flat_map (chosen_cells l.store l.choice l.file l.birth l.edge) (drop l.entry-index l.entry-items)
    ≡ l.initial.sent ++ edge_cells l.store (passes l.choice) l.file l.birth l.edge
