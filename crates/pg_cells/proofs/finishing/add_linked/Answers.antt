use Rattle.pg_base.proofs.Orders.{file_order_is}
use Rattle.pg_cells.proofs.Listed.{one_more_edge, still_listed}
use Rattle.pg_cells.proofs.finishing.add_linked.Goals as goal

pub loop-edge-preserved : goal.loop-edge-preserved
loop-edge-preserved c =
    let before = c.loop-edge.files.entries in
    let after = c.insert.new.self.entries in (
      one_more_edge _ file_order_is before after c.args.linked.now c.loop-edge.edge-index _ c.loop-edge-test.true
          c.in_ok-insert.ensures.entries c.loop-edge.invariant.0,
      λ ts lists. still_listed _ file_order_is before after _ c.in_ok-insert.ensures.entries ts (c.loop-edge.invariant.1 ts lists),
    )
