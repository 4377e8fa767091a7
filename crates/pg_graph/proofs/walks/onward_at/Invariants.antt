use Rattle.std.proofs.Common.{◌≡◌, drop, filter}
use Rattle.std.specs.List.{slice_get}
use Rattle.pg_graph.specs.Walks.{is_onward}
use Rattle.pg_graph.proofs.walks.onward_at.Given as goal

abbrev pub invariant-loop-edge : goal.invariant-loop-edge
invariant-loop-edge l =
    slice_get (filter (is_onward l.from l.origin) (drop l.edge-index l.edges)) l.left
    ≡ slice_get (filter (is_onward l.from l.origin) l.edges) l.index
