use Rattle.pg_base.proofs.Orders.{file_order_is}
use Rattle.pg_intentions.proofs.Filled.{parent_comes}
use Rattle.pg_intentions.proofs.fills.add_parent.Goals as goal

pub returns-in_ok-insert : goal.returns-in_ok-insert
returns-in_ok-insert c =
    parent_comes _ file_order_is c.args.names.now c.args.files.now.entries c.insert.new.self.entries c.args.file.now c.args.held.now _ _
    c.lacks_parent.ensures c.if-lacks_parent.true c.own.ensures c.in_ok-insert.ensures.entries
