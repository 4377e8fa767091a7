use Rattle.std.proofs.Common.{rules, ◌≡◌, ◌∙◌, subst, sym, is_some}
use Rattle.pg_graph.specs.pg_intent.declared.key.IntentKey.TheVariants as intent_key
use Rattle.pg_graph.specs.pg_intent.Intents.{intent_at}
use Rattle.pg_graph.specs.pg_store.declared.store.Store.{Store}
use Rattle.pg_graph.proofs.pg_intent.Found.{stands_is}
use Rattle.pg_intentions.proofs.seeks.has_seek.Goals as goal

pub returns : goal.returns
returns c =
    let k = intent_key.Seek c.args.file in
    let there : c.is_some.result ≡ is_some (intent_at c.store.inside.intents k) = search rules in
    subst (λ (b : Store). c.is_some.result ≡ is_some (intent_at b.intents k)) c.store.view_is there
    ∙ sym (stands_is c.args.store.now.intents k)
