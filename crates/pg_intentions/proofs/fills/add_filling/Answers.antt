use Rattle.pg_base.proofs.Orders.{file_order_is}
use Rattle.pg_intentions.proofs.Filled.{filling_comes}
use Rattle.pg_intentions.proofs.fills.add_filling.Goals as goal

pub returns : goal.returns
returns c =
    filling_comes _ file_order_is c.args.files.now.entries c.insert.new.self.entries c.args.file.now c.args.held.now _
    c.is_full.ensures c.if-is_full.false c.in_ok-insert.ensures.entries
