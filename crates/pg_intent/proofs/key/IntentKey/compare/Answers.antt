use Rattle.std.proofs.Common.{◌∙◌}
use Rattle.pg_intent.proofs.Orders.{order_of}
use Rattle.pg_intent.proofs.key.IntentKey.compare.Goals as goal

pub returns : goal.returns
returns c = c.cmp.ensures ∙ order_of c.args.self.now c.args.other.now
