use Rattle.pg_state_fields.proofs.Fresh.{fresh_test}
use Rattle.pg_state_fields.proofs.intents.is_fresh.Goals as goal

pub returns : goal.returns
returns c = fresh_test c.args.done.now c.args.key.now c.get.result c.is_none.result c.get.ensures.intent c.is_none.ensures
