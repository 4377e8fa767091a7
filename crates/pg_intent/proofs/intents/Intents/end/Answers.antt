use Rattle.std.proofs.Common.{Option, is_some, ap, sym, ◌∙◌}
use Rattle.pg_intent.specs.declared.intent.Intent.{Intent}
use Rattle.pg_intent.proofs.Found.{stands_is}
use Rattle.pg_intent.proofs.intents.Intents.end.Goals as goal

pub returns-clause-stood : goal.returns-clause-stood
returns-clause-stood c = c.is_some.ensures ∙ ap (λ (o : Option Intent). is_some o) c.take.ensures.taken ∙ sym (stands_is c.args.self.now c.args.key.now)
