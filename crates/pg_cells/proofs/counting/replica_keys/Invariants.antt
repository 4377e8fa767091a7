use Rattle.std.proofs.Common.{◌≡◌, ◌+◌, ◌-◌, ◌^◌, ◌<◌, drop, min}
use Rattle.pg_cells.specs.Counts.{edge_keys}
use Rattle.pg_cells.proofs.counting.replica_keys.Given as goal

abbrev pub invariant-loop-edge : goal.invariant-loop-edge
invariant-loop-edge l =
    (l.count < 2 ^ 64)
    × (min (l.count + edge_keys (drop l.edge-index l.edge-items)) (2 ^ 64 - 1) ≡ min (edge_keys l.replica.edges) (2 ^ 64 - 1))
