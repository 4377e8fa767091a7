use Rattle.std.proofs.Common.{◌≡◌, ◌++◌, drop, take}
use Rattle.std.specs.List.{AllByRecursion, flat_map}
use Rattle.pg_state.specs.Spelling.{edge_bytes}
use Rattle.pg_state.specs.Fits.{FitsEdge}
use Rattle.pg_state.proofs.edges.write_each_edge.Given as goal

abbrev pub invariant-loop-edge : goal.invariant-loop-edge
invariant-loop-edge l = record {
  out : l.out ≡ l.fn.out ++ flat_map edge_bytes (take l.edge-index l.edges);
  rest : AllByRecursion FitsEdge (drop l.edge-index l.edges);
}
