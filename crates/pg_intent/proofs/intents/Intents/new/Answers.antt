use Rattle.pg_intent.proofs.Entries.{no_entry}
use Rattle.pg_intent.proofs.intents.Intents.new.Goals as goal

pub invariant_of-result : goal.invariant_of-result
invariant_of-result c = let own = no_entry c.new.result.entries c.new.ensures.empty in record { own = own.0; single = own.1 }
