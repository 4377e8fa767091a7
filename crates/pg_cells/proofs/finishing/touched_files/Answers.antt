use Rattle.pg_base.proofs.Orders.{file_order_is}
use Rattle.pg_cells.proofs.Listed.{one_more_file}
use Rattle.pg_cells.proofs.finishing.touched_files.Goals as goal

pub loop-t-preserved : goal.loop-t-preserved
loop-t-preserved c =
    one_more_file _ file_order_is c.loop-t.files.entries c.insert.new.self.entries c.args.touched.now c.loop-t.t-index _ c.loop-t-test.true
    c.in_ok-insert.ensures.entries c.loop-t.invariant
