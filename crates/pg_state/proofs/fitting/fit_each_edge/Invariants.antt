use Rattle.std.proofs.Common.{drop}
use Rattle.std.specs.List.{AllByRecursion}
use Rattle.pg_state.specs.Fits.{FitsEdge}
use Rattle.pg_state.proofs.fitting.fit_each_edge.Given as goal

abbrev pub invariant-loop-edge : goal.invariant-loop-edge
invariant-loop-edge l = record {
  there : AllByRecursion FitsEdge l.edges → AllByRecursion FitsEdge (drop l.edge-index l.edges);
  back : AllByRecursion FitsEdge (drop l.edge-index l.edges) → AllByRecursion FitsEdge l.edges;
}
