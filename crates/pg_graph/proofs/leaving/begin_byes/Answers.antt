use Rattle.std.proofs.Common.{◌+◌, ◌∷◌, drop, sym, ap, ◌∙◌}
use Rattle.std.proofs.lemmas.List.{drop_more}
use Rattle.pg_edges.specs.declared.edge.Edge.{Edge}
use Rattle.pg_pieces.specs.Done.{idle}
use Rattle.pg_graph.specs.Leaving.{begin_byes}
use Rattle.pg_graph.proofs.Byes.{one_bye}
use Rattle.pg_graph.proofs.leaving.begin_byes.Goals as goal

pub loop-edge-preserved : goal.loop-edge-preserved
loop-edge-preserved c =
    let es = c.args.edges.now in
    let i = c.loop-edge.edge-index in
    let e = c.edge-item.result in
    one_bye c.args.file c.args.birth c.loop-edge.store _ c.loop-edge.work _ (drop i es) (drop (i + 1) es) e
    (begin_byes c.args.file c.args.birth es (idle c.args.store.now c.args.work.now))
    (drop_more es i e c.loop-edge-test.true ∙ ap (λ (x : Edge). x ∷ drop (i + 1) es) (sym c.edge-item.is))
    c.in_ok-begin_intent.ensures.store c.in_ok-begin_intent.ensures.work c.loop-edge.invariant
