use Rattle.std.proofs.Common.{◌≡◌, drop}
use Rattle.std.specs.List.{flat_map, slice_get}
use Rattle.pg_server.specs.Owing.{edge_owes, replica_owes}
use Rattle.pg_server.proofs.owing.first_of_replica.Given as goal

abbrev pub invariant-loop-edge : goal.invariant-loop-edge
invariant-loop-edge l = slice_get (replica_owes l.server (l.file, l.replica)) 0 ≡ slice_get (flat_map (edge_owes l.server l.file) (drop l.edge-index l.edge-items)) 0
