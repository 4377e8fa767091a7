use Rattle.std.proofs.Common.{List, ap, ◌∙◌}
use Rattle.pg_intent.specs.declared.intent.Intent.{Intent}
use Rattle.pg_intent.specs.Intents.{intent_at}
use Rattle.pg_intent.proofs.Entries.{get_is}
use Rattle.pg_intent.proofs.intents.Intents.get.Goals as goal

pub returns-clause-intent : goal.returns-clause-intent
returns-clause-intent c =
    c.get.ensures.value ∙ get_is c.self.inside.by_key c.self.invariant.own c.args.key.now
    ∙ ap (λ (is : List Intent). intent_at is c.args.key.now) c.self.view_is
