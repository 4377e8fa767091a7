use Rattle.pg_base.proofs.Orders.{file_order_is}
use Rattle.pg_intentions.proofs.Filled.{fill_stays}
use Rattle.pg_intentions.proofs.beginning.still_stands.Goals as goal

pub returns-in-Fill : goal.returns-in-Fill
returns-in-Fill c =
    fill_stays _ file_order_is c.args.store.now c.args.files.now.entries c.args.intent.now _ _ _ c.contains_key.result c.in-Fill.is c.contains_key.ensures
