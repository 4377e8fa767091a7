use Rattle.std.proofs.Common.{sym, ◌∙◌}
use Rattle.pg_server.proofs.FirstOwed.{first_intent, no_intent}
use Rattle.pg_server.proofs.owing.first_owed.Goals as goal

pub returns-in-Some : goal.returns-in-Some
returns-in-Some c = sym (first_intent c.args.store.now c.in-Some.intent (sym c.in-Some.ensures))

pub returns-in-None : goal.returns-in-None
returns-in-None c = c.first_key_or_place.ensures ∙ sym (no_intent c.args.store.now (sym c.in-None.ensures))
