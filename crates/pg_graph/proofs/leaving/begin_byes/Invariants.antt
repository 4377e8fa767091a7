use Rattle.std.proofs.Common.{drop}
use Rattle.pg_pieces.specs.Done.{idle}
use Rattle.pg_graph.specs.Leaving.{begin_byes}
use Rattle.pg_graph.proofs.Byes.{ByesCome}
use Rattle.pg_graph.proofs.leaving.begin_byes.Given as goal

abbrev pub invariant-loop-edge : goal.invariant-loop-edge
invariant-loop-edge l =
    ByesCome l.file l.birth l.store (drop l.edge-index l.edges) l.work
    (begin_byes l.file l.birth l.edges (idle l.initial.store l.initial.work))
